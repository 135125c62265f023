use Rattle.std.proofs.Common.{◌≡◌, [], drop, map, get_or}
use Rattle.tclv_value.specs.Changes.{KeepsTexts}
use Rattle.tclv_ctl.specs.Switching.{fitting_body, plan_manner, clause_in, chosen_by}
use Rattle.tclv_ctl.proofs.choosing.chosen_body.Given as goal

abbrev pub invariant-loop-k : goal.invariant-loop-k
invariant-loop-k l =
    let s = l.initial.store.stack in
    record {
      kept : KeepsTexts l.initial.store l.store;
      came : chosen_by l.plan s ≡ fitting_body (plan_manner l.plan) (get_or s l.plan.string []) (map (clause_in s) (drop l.k l.plan.clauses.items));
    }
