use Rattle.std.proofs.Common.{rules, arith, ap, sym, ◌∙◌, ◌%◌, ◌≡◌, [], length, get_or, true, false}
use Rattle.std.specs.Prelude.{◌==◌}
use Rattle.std.specs.Str.{chars}
use Rattle.std.proofs.lemmas.Str.{chars-nil}
use Rattle.std.proofs.lemmas.Bool.{cond-true, cond-false, ne_eqb, eq-eqb}
use Rattle.tclv_model.specs.declared.messages.MessageId.TheVariants.{OddArrayList}
use Rattle.tclv_model.specs.declared.error_codes.ErrorCode.TheVariants.{NoCode}
use Rattle.tclv_engine.specs.ListAssignment.{listed}
use Rattle.tclv_engine.specs.State.{state_of}
use Rattle.tclv_engine.proofs.Binds.{runs_as}
use Rattle.tclv_engine.proofs.WordLemmas.{raise_at_runs}
use Rattle.tclv_plain.proofs.array_setting.set_listed.Goals as goal

pub returns-then-len-eq1-clause-answer : goal.returns-then-len-eq1-clause-answer
returns-then-len-eq1-clause-answer g c here w told =
    let texts = listed (get_or c.args.machine.now.values.store.stack c.args.list []) in
    let odd : (length texts % 2 == 1) ≡ true = sym (ap (λ k. k % 2 == 1) c.requires.len) ∙ eq-eqb _ _ c.if-len-eq1.true in
    runs_as (sym (cond-true _ _ _ odd))
    (raise_at_runs c.args.machine.now OddArrayList (chars []) [] NoCode told c.raise.ensures.same chars-nil c.raise.ensures.raises)

pub returns-clause-answer : goal.returns-clause-answer
returns-clause-answer g c here w told =
    let texts = listed (get_or c.args.machine.now.values.store.stack c.args.list []) in
    let even : (length texts % 2 == 1) ≡ false = sym (ap (λ k. k % 2 == 1) c.requires.len) ∙ ne_eqb _ _ c.if-len-eq1.false in
    runs_as (sym (cond-false _ _ _ even)) (c.assign_all.ensures.answer here w told)
