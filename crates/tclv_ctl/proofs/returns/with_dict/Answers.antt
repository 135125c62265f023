use Rattle.std.proofs.Common.{◌≡◌, ◌∙◌, rules, subst, [], get_or}
use Rattle.tclv_text.specs.Pairs.{Pairs}
use Rattle.tclv_model.specs.Values.{dict_of}
use Rattle.tclv_reply.specs.Replies.{Reads}
use Rattle.tclv_ctl.specs.Returns.{with_pairs, asks_of}
use Rattle.tclv_ctl.proofs.ReadLemmas.{reads_stop, reads_on}
use Rattle.tclv_ctl.proofs.returns.with_dict.Goals as goal

pub returns-in_err-pairs-clause-reads : goal.returns-in_err-pairs-clause-reads
returns-in_err-pairs-clause-reads c =
    reads_stop (dict_of (get_or c.args.store.now.stack c.args.at [])) (λ (ps : Pairs). with_pairs ps (asks_of c.args.wanted)) _ _ c.args.store.now c.read_dict.new.store c.in_err-pairs.field-0.0 c.from_residual.result (search rules) c.in_err-pairs.ensures

pub returns-clause-reads : goal.returns-clause-reads
returns-clause-reads c =
    let x = asks_of c.args.wanted in
    let u = c.in_ok-pairs.ensures in
    let same = c.as_slice.ensures.value ∙ u.gives.shown in
    reads_on (dict_of (get_or c.args.store.now.stack c.args.at [])) (λ (ps : Pairs). with_pairs ps x) _ _ c.args.store.now c.read_dict.new.store c.with_pairs.new.store c.in_ok-pairs.pairs c.with_pairs.result u
    (subst (λ (ps : Pairs). Reads (with_pairs ps x) (λ s y. asks_of y ≡ s) c.read_dict.new.store c.with_pairs.new.store c.with_pairs.result) same c.with_pairs.ensures.reads)
