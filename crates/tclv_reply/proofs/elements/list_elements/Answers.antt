use Rattle.std.proofs.Common.{ap, sym}
use Rattle.tclv_value.specs.View.{text_at}
use Rattle.tclv_model.specs.Values.{list_of}
use Rattle.tclv_reply.proofs.ReplyLemmas.{grows_kept, grows_trans, reads_left, refused_after, text_kept}
use Rattle.tclv_reply.proofs.elements.list_elements.Goals as goal

pub returns-in-Err-clause-reads : goal.returns-in-Err-clause-reads
returns-in-Err-clause-reads c =
    let old = c.args.store.now in
    let one = c.read_elements.new.store in
    let mid = c.refuse_list-kind.new.store in
    let kept = c.in-Err.ensures.kept in
    let kind = c.refuse_list-kind.result in
    let answer = list_of (text_at old c.args.list) in
    let g = grows_kept old one kept in
    let r = refused_after answer (list_of (text_at one c.args.list)) kind old one mid g (ap list_of (sym (text_kept old one kept c.args.list))) c.refuse_list-kind.ensures.refused in
    reads_left answer old mid c.refused.new.store (grows_trans old one mid g c.refuse_list-kind.ensures.grows) c.refused.ensures.cells c.refused.ensures.keeps _ kind c.refused.result c.height-height.result c.height-height.ensures c.refused.ensures.same r c.refused.ensures.stack
