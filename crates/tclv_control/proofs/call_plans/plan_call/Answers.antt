use Rattle.std.proofs.Common.{subst, rules, refl, ap, ◌∙◌, ◌≡◌, ◌-◌, Ok, Err, arith}
use Rattle.tclv_model.specs.declared.data_commands.CmdFault.TheVariants.{Message, WrongArgs}
use Rattle.tclv_value.specs.Stacks.{top, under}
use Rattle.tclv_value.specs.Procedures.{Procedure}
use Rattle.tclv_ctl.specs.Arguments as binding
use Rattle.tclv_engine.specs.State.{state_of}
use Rattle.tclv_engine.specs.Plans.{Called, PlanOver}
use Rattle.tclv_engine.proofs.Binds.{runs_as}
use Rattle.tclv_engine.proofs.Leaves.{memory_runs, value_runs}
use Rattle.tclv_engine.proofs.WordLemmas.{same_then}
use Rattle.tclv_control.proofs.CallLemmas.{replaced, declined, texts_on_top, texts_inside, keeps_below, call_row, given_row, refused_runs, refusal_over}
use Rattle.tclv_control.proofs.PlanLemmas.{keeps_under, error_under}
use Rattle.tclv_control.proofs.call_plans.plan_call.Goals as goal

pub returns-in-Ok-clause-answer : goal.returns-in-Ok-clause-answer
returns-in-Ok-clause-answer g c here w told =
    let before = c.args.machine.now.values.store in
    let after = c.bind_words.new.machine.values.store in
    let heads = top 1 (under (c.args.n - 1) before.stack) in
    let words = top (c.args.n - 1) before.stack in
    let row = binding.arguments heads c.args.def.value words in
    let B : Procedure → Type 0 = λ d. binding.Replaces (binding.arguments heads d words) (c.args.n - 1) before after c.bind_words.result in
    let bound = subst B c.deref.ensures c.bind_words.ensures.bound in
    let h = replaced row (c.args.n - 1) before after c.bind_words.result bound (search rules) in
    runs_as (given_row row h.texts c.args.def.value c.args.behind (state_of c.args.machine.now w) h.given ∙ call_row c.args.def.value c.args.behind before.stack c.args.n (state_of c.args.machine.now w) c.requires.some c.requires.words)
    (value_runs c.args.machine.now told c.bind_words.ensures.same (ap (λ ts. Called c.args.def.value ts c.args.behind) (texts_on_top heads c.args.def.value words (c.args.n - 1) before.stack after.stack h)))

pub returns-in-Ok-clause-stack : goal.returns-in-Ok-clause-stack
returns-in-Ok-clause-stack g c =
    let before = c.args.machine.now.values.store in
    let after = c.bind_words.new.machine.values.store in
    let heads = top 1 (under (c.args.n - 1) before.stack) in
    let words = top (c.args.n - 1) before.stack in
    let row = binding.arguments heads c.args.def.value words in
    let B : Procedure → Type 0 = λ d. binding.Replaces (binding.arguments heads d words) (c.args.n - 1) before after c.bind_words.result in
    let bound = subst B c.deref.ensures c.bind_words.ensures.bound in
    let h = replaced row (c.args.n - 1) before after c.bind_words.result bound (search rules) in
    (keeps_under (c.args.n - 1) c.args.n before.stack after.stack (omega arith) (keeps_below heads c.args.def.value words (c.args.n - 1) before.stack after.stack h), texts_inside heads c.args.def.value words (c.args.n - 1) before.stack after.stack h)

pub returns-in-Err-NoMemory-clause-answer : goal.returns-in-Err-NoMemory-clause-answer
returns-in-Err-NoMemory-clause-answer g c here w told = memory_runs refl told c.bind_words.ensures.same.events

pub returns-in-Err-WrongArgs-clause-answer : goal.returns-in-Err-WrongArgs-clause-answer
returns-in-Err-WrongArgs-clause-answer g c here w told =
    let before = c.args.machine.now.values.store in
    let after = c.bind_words.new.machine.values.store in
    let heads = top 1 (under (c.args.n - 1) before.stack) in
    let words = top (c.args.n - 1) before.stack in
    let row = binding.arguments heads c.args.def.value words in
    let B : Procedure → Type 0 = λ d. binding.Replaces (binding.arguments heads d words) (c.args.n - 1) before after c.bind_words.result in
    let bound = subst B c.deref.ensures c.bind_words.ensures.bound in
    let is : c.bind_words.result ≡ Err WrongArgs = search rules in
    runs_as (call_row c.args.def.value c.args.behind before.stack c.args.n (state_of c.args.machine.now w) c.requires.some c.requires.words)
    (refused_runs row (c.args.n - 1) before after c.args.def.value c.args.behind WrongArgs c.refuse.result c.args.machine.now c.refuse.new.self w here told
    (same_then c.args.machine.now c.bind_words.new.machine c.refuse.new.self c.bind_words.ensures.same c.refuse.ensures.same)
    (declined row (c.args.n - 1) before after c.bind_words.result bound WrongArgs is) c.refuse.ensures.refuses)

pub returns-in-Err-WrongArgs-clause-stack : goal.returns-in-Err-WrongArgs-clause-stack
returns-in-Err-WrongArgs-clause-stack g c =
    let before = c.args.machine.now.values.store in
    let after = c.bind_words.new.machine.values.store in
    let heads = top 1 (under (c.args.n - 1) before.stack) in
    let words = top (c.args.n - 1) before.stack in
    let row = binding.arguments heads c.args.def.value words in
    let B : Procedure → Type 0 = λ d. binding.Replaces (binding.arguments heads d words) (c.args.n - 1) before after c.bind_words.result in
    let bound = subst B c.deref.ensures c.bind_words.ensures.bound in
    let is : c.bind_words.result ≡ Err WrongArgs = search rules in
    error_under (PlanOver {K = g.row.K.Denot} (under c.args.n before.stack)) (Unit {0}) (c.args.n - 1) c.args.n before.stack c.refuse.result (Err c.refuse.result) c.refuse.new.self.values.store.stack (omega arith) refl
    (refusal_over row (c.args.n - 1) before after WrongArgs c.refuse.result c.refuse.new.self.values.store.stack
    (declined row (c.args.n - 1) before after c.bind_words.result bound WrongArgs is) c.refuse.ensures.refuses)
