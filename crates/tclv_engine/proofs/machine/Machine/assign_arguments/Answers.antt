use Rattle.std.proofs.Common.{◌≡◌, ◌+◌, ◌-◌, ◌∙◌, rules, arith, ap, sym, [], drop, length}
use Rattle.tclv_engine.specs.State.{state_of}
use Rattle.tclv_engine.specs.ListAssignment.{assign_each}
use Rattle.tclv_engine.specs.Frames.{names_of, rest_name}
use Rattle.tclv_engine.proofs.Binds.{runs_as, bind_ok, then_stop}
use Rattle.tclv_engine.proofs.FrameLemmas.{drops_both}
use Rattle.tclv_engine.proofs.machine.Machine.assign_arguments.Goals as goal

pub returns-in_err-assign_params-clause-answer : goal.returns-in_err-assign_params-clause-answer
returns-in_err-assign_params-clause-answer g c here w told =
    then_stop _ (search rules)
    (runs_as (ap (λ ps. assign_each (names_of ps) (drop (c.args.end - length ps) c.args.self.now.values.store.stack) (state_of c.args.self.now w)) c.params.ensures) (c.in_err-assign_params.ensures.answer here w told))

pub returns-clause-answer : goal.returns-clause-answer
returns-clause-answer g c here w told =
    let stack = c.args.self.now.values.store.stack in
    let count = length c.args.def.now.params in
    let place : c.args.end ≡ c.args.end - count + count = omega (arith, c.requires.some) in
    bind_ok _
    (runs_as (ap (λ ps. assign_each (names_of ps) (drop (c.args.end - length ps) stack) (state_of c.args.self.now w)) c.params.ensures) (c.in_ok-assign_params.ensures.answer here w told))
    (λ u v e shown. runs_as
    (ap (λ b. assign_each (rest_name b) (drop c.args.end c.assign_params.new.self.values.store.stack) (state_of c.assign_params.new.self v)) c.has_rest.ensures
    ∙ ap (λ s. assign_each (rest_name c.args.def.now.rest) (drop c.args.end s) (state_of c.assign_params.new.self v)) c.in_ok-assign_params.ensures.stack
    ∙ ap (λ ts. assign_each (rest_name c.args.def.now.rest) ts (state_of c.assign_params.new.self v)) (ap (λ k. drop k stack) place ∙ drops_both (c.args.end - count) count stack))
    (c.assign_rest.ensures.answer here v e))
