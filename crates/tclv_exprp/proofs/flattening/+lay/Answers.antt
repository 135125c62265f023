use Rattle.std.proofs.Common.{rules, arith, ◌≡◌, ◌++◌, List, reverse, OnOk, sym, ap, ◌∙◌, subst}
use Rattle.std.proofs.lemmas.Grind.{common_steps}
use Rattle.tclv_exprp.specs.declared.instructions.Instruction.{Instruction}
use Rattle.tclv_exprp.specs.Flat.{flat_at, steps, arguments}
use Rattle.tclv_exprp.proofs.FlatLemmas.{next_last, none_left, choice_laid, steps_last, arguments_last, no_level, one_level}
use Rattle.tclv_exprp.proofs.flattening.+lay.Goals as goal

pub lay-returns-then-levels-eq0 : goal.lay-returns-then-levels-eq0
lay-returns-then-levels-eq0 t c =
    let P : List Instruction → Type 0 = λ is. OnOk c.operate.result (c.operate.new.out.items ≡ c.args.out.now.items ++ reverse is) in
    subst P (sym (no_level c.args.levels c.args.tree (omega arith))) c.operate.ensures

pub lay-returns : goal.lay-returns
lay-returns t c =
    let P : List Instruction → Type 0 = λ is. OnOk c.lay_node.result (c.lay_node.new.out.items ≡ c.args.out.now.items ++ reverse is) in
    subst P (sym (one_level c.args.levels c.args.tree (omega arith))) c.lay_node.ensures

pub lay_arguments-arguments-preserved : goal.lay_arguments-arguments-preserved
lay_arguments-arguments-preserved t c =
    let fl = flat_at c.args.levels in
    next_last c.arguments.out.items c.lay.new.out.items (fl c.in-Some.argument) (arguments fl c.pop.new.self) (arguments fl c.arguments.rest) c.in_ok-lay.ensures
    (ap (λ es. arguments fl es) c.in-Some.ensures ∙ arguments_last fl c.pop.new.self c.in-Some.argument)
    ∙ c.arguments.invariant

pub lay_arguments-returns : goal.lay_arguments-returns
unfolding arguments
lay_arguments-returns t c =
    none_left c.arguments.out.items _ (arguments (flat_at c.args.levels) c.arguments.rest) (ap (λ es. arguments (flat_at c.args.levels) es) c.in_default.ensures.0) c.arguments.invariant

pub lay_choice-returns : goal.lay_choice-returns
lay_choice-returns t c =
    let P : List Instruction → Type 0 = λ is. OnOk c.put-4.result (c.put-4.new.out.items ≡ is) in
    subst P (choice_laid c.args.out.now.items c.lay.new.out.items c.put.new.out.items c.put-2.new.out.items c.lay-2.new.out.items c.put-3.new.out.items _ _ (flat_at c.args.levels c.args.yes) (flat_at c.args.levels c.args.no)
    c.in_ok-lay.ensures c.in_ok-put.ensures c.in_ok-put-2.ensures c.in_ok-lay-2.ensures c.in_ok-put-3.ensures (first_of (search rules, grind (arith, common_steps))) (first_of (search rules, grind (arith, common_steps)))) c.put-4.ensures

pub lay_steps-steps-preserved : goal.lay_steps-steps-preserved
lay_steps-steps-preserved t c =
    let fl = flat_at c.args.levels in
    next_last c.steps.out.items c.lay_step.new.out.items _ (steps fl c.pop.new.self) (steps fl c.steps.rest) c.in_ok-lay_step.ensures
    (ap (λ es. steps fl es) c.in-Some.ensures ∙ steps_last fl c.pop.new.self _)
    ∙ c.steps.invariant

pub lay_steps-returns : goal.lay_steps-returns
unfolding steps
lay_steps-returns t c =
    none_left c.steps.out.items _ (steps (flat_at c.args.levels) c.steps.rest) (ap (λ es. steps (flat_at c.args.levels) es) c.in_default.ensures.0) c.steps.invariant
