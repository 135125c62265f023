use Rattle.std.proofs.Common.{rules, arith, sym, ap, ◌∙◌, ◌≡◌, refl, to_z, of_z, w32, w64}
use Rattle.std.proofs.lemmas.Int.{ints}
use Rattle.tclv_text.specs.Numbers.{whole_text}
use Rattle.tclv_engine.specs.declared.endings.Carried.TheVariants.{Plain}
use Rattle.tclv_engine.specs.Results.{outcome}
use Rattle.tclv_engine.specs.Plans.{Finished}
use Rattle.tclv_engine.proofs.Leaves.{memory_runs, value_runs}
use Rattle.tclv_engine.proofs.StackLemmas.{last-pushed}
use Rattle.tclv_engine.proofs.WordLemmas.{values_same}
use Rattle.tclv_control.proofs.CodeNumberLemmas.{text_of_number}
use Rattle.tclv_control.proofs.catch_plans.finish_code.Goals as goal

pub returns-in_err-push_whole-clause-answer : goal.returns-in_err-push_whole-clause-answer
returns-in_err-push_whole-clause-answer g c here w told = memory_runs (search rules) told refl

pub returns-clause-answer : goal.returns-clause-answer
returns-clause-answer g c here w told =
    let same_number : to_z w64 (of_z w64 c.from.result) ≡ c.from.result = omega (arith, ints) in
    let short : to_z w32 (of_z w32 c.number.result) ≡ c.number.result = omega (arith, ints) in
    let same = values_same c.args.machine.now c.push_whole.new.self c.in_ok-push_whole.ensures.same in
    value_runs c.args.machine.now told same
    (sym (ap (λ t. Finished (outcome Plain t)) (last-pushed _ _ _ c.in_ok-push_whole.ensures.pushed ∙ ap whole_text (same_number ∙ c.from.ensures ∙ short ∙ c.number.ensures) ∙ text_of_number c.args.code)))
