use Rattle.std.proofs.Common.{length, ap, arith}
use Rattle.tclv_text.specs.Elements.{elements}
use Rattle.tclv_value.specs.View.{text_at}
use Rattle.tclv_value.proofs.WayPlaceLemmas.{grows_texts, grows_then, grows_more}
use Rattle.tclv_value.proofs.store.Store.read_level.Goals as goal

pub returns-in_err-push_element-clause-grows : goal.returns-in_err-push_element-clause-grows
returns-in_err-push_element-clause-grows c =
    let v1 = c.list_len.new.self in
    grows_then c.args.self.now v1 c.push_element.new.self (grows_texts c.args.self.now v1 c.list_len.ensures.kept) (grows_texts v1 c.push_element.new.self c.in_err-push_element.ensures.kept)

pub returns-then-branch-clause-pushed : goal.returns-then-branch-clause-pushed
returns-then-branch-clause-pushed c =
    let v1 = c.list_len.new.self in
    let more = grows_more (elements (text_at v1 c.args.list)) c.in_ok-place.place v1 c.push_element.new.self c.in_ok-push_element.field-0 c.if-branch.true c.in_ok-push_element.ensures.found c.in_ok-push_element.ensures.pushed in
    omega (arith, more, ap length c.list_len.ensures.kept.stack)
