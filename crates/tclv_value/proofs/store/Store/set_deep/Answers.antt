use Rattle.std.proofs.Common.{true≢false, sym, ◌∙◌}
use Rattle.tclv_value.specs.SetObjects.{SetsAlong}
use Rattle.tclv_value.proofs.OpenPlaceLemmas.{not_along}
use Rattle.tclv_value.proofs.SetOneLemmas.{on_ok_any, err_any}
use Rattle.tclv_value.proofs.store.Store.set_deep.Goals as goal

pub returns-then-branch-clause-along : goal.returns-then-branch-clause-along
unfolding SetsAlong
returns-then-branch-clause-along c opens = (c.in_ok-set_along.ensures.same c.if-branch.true, c.in_ok-set_along.ensures.listed c.if-branch.true, c.set_along.ensures.stats)

pub returns-then-branch-2-clause-along : goal.returns-then-branch-2-clause-along
returns-then-branch-2-clause-along c = not_along c.args.self.now c.set_along-2.new.self c.args.at c.args.path c.in_ok-set_along.field-0 c.in_ok-set_along.ensures.finds c.if-branch.false

pub returns-clause-along : goal.returns-clause-along
returns-clause-along c = on_ok_any c.set_by_texts.result (SetsAlong c.args.self.now c.args.at c.args.path c.set_by_texts.new.self) (not_along c.args.self.now c.set_by_texts.new.self c.args.at c.args.path c.in_ok-set_along.field-0 c.in_ok-set_along.ensures.finds c.if-branch.false)

pub returns-clause-opens : goal.returns-clause-opens
returns-clause-opens c = err_any c.set_by_texts.result _ (λ why opens. absurd (true≢false (sym (c.in_ok-set_along.ensures.finds opens) ∙ c.if-branch.false)))
