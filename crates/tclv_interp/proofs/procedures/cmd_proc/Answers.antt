use Rattle.std.proofs.Common.{rules, arith, ap, subst, ◌∙◌, ◌-◌, ◌≡◌, [], List, length, get_or}
use Rattle.tclv_value.specs.Stacks.{under}
use Rattle.tclv_engine.specs.State.{Text, state_of}
use Rattle.tclv_engine.specs.Answers.{PushesOne}
use Rattle.tclv_engine.proofs.Binds.{runs_as, bind_ok, then_stop}
use Rattle.tclv_engine.proofs.DataLemmas.{over_call}
use Rattle.tclv_engine.proofs.WordLemmas.{one_under}
use Rattle.tclv_interp.specs.ProcRows.{defined}
use Rattle.tclv_interp.proofs.ProcLemmas.{proc_row, words_above}
use Rattle.tclv_interp.proofs.procedures.cmd_proc.Goals as goal

pub returns-in_err-def-clause-answer : goal.returns-in_err-def-clause-answer
returns-in_err-def-clause-answer c here w told =
    runs_as (proc_row c.args.machine.now.values.store.stack c.args.n (state_of c.args.machine.now w) c.requires.some c.requires.words)
    (then_stop _ (search rules) (c.in_err-def.ensures.answer here w told))

pub returns-in_err-def-clause-stack : goal.returns-in_err-def-clause-stack
returns-in_err-def-clause-stack c =
    let stack = c.args.machine.now.values.store.stack in
    over_call c.args.n stack _ _ c.requires.some c.requires.words (words_above (Unit {0}) (under (c.args.n - 1) stack) _ _ _ (search rules) c.in_err-def.ensures.stack)

pub define-requires : goal.define-requires
define-requires c = omega (arith, c.height.ensures, c.in_ok-def.ensures.some, c.requires.words, ap length c.in_ok-def.ensures.kept)

pub returns-clause-answer : goal.returns-clause-answer
returns-clause-answer c here w told =
    let stack = c.args.machine.now.values.store.stack in
    runs_as (proc_row stack c.args.n (state_of c.args.machine.now w) c.requires.some c.requires.words)
    (bind_ok _ (c.in_ok-def.ensures.answer here w told)
    (λ d v e shown. runs_as
    (ap (λ k. defined (get_or c.asked.new.machine.values.store.stack (k - (c.args.n - 1)) []) c.in_ok-def.def.value (state_of c.asked.new.machine v)) c.height.ensures
    ∙ ap (λ s. defined (get_or s (length s - (c.args.n - 1)) []) c.in_ok-def.def.value (state_of c.asked.new.machine v)) c.in_ok-def.ensures.kept
    ∙ ap (λ p. defined (get_or stack (length stack - (c.args.n - 1)) []) p (state_of c.asked.new.machine v)) shown)
    (c.define.ensures.answer here v e)))

pub returns-clause-stack : goal.returns-clause-stack
returns-clause-stack c =
    let P : List Text → Type 0 = λ s. PushesOne s c.define.result c.define.new.machine.values.store.stack in
    one_under c.args.n c.args.machine.now.values.store.stack c.define.result c.define.new.machine.values.store.stack (subst P c.in_ok-def.ensures.kept c.define.ensures.stack)
