use Rattle.std.proofs.Common.{◌∙◌, sym, ap, rules, refl, ◌≡◌, Some, None}
use Rattle.tclv_value.specs.View.{text_at}
use Rattle.tclv_model.specs.declared.messages.MessageId.TheVariants as message
use Rattle.tclv_model.specs.declared.error_codes.ErrorCode.TheVariants.{NoCode}
use Rattle.tclv_engine.specs.State.{state_of}
use Rattle.tclv_engine.specs.Links.{level}
use Rattle.tclv_engine.proofs.Binds.{runs_as}
use Rattle.tclv_engine.proofs.Leaves.{memory_runs, from_same, done_runs, raise_first}
use Rattle.tclv_engine.proofs.NameLemmas.{bytes-are}
use Rattle.tclv_engine.proofs.HoldingsLemmas.{same_text}
use Rattle.tclv_engine.proofs.LinkLemmas.{level_found}
use Rattle.tclv_engine.proofs.machine.Machine.level_at.Goals as goal

pub returns-in_err-make_text-clause-answer : goal.returns-in_err-make_text-clause-answer
returns-in_err-make_text-clause-answer g c here w told = memory_runs (search rules) told refl

pub returns-in-Some-clause-answer : goal.returns-in-Some-clause-answer
returns-in-Some-clause-answer g c here w told =
    let old = c.args.self.now in
    let mid = record old { values = c.make_text.new.self } in
    let word = text_at c.make_text.new.self.store c.args.word in
    from_same old mid (level (text_at old.values.store c.args.word)) (search rules)
    (runs_as (level_found word c.lend.result.now c.level.result (Some c.in-Some.level) (state_of mid w) (bytes-are _ _ c.lend.ensures.utf8 c.lend.ensures.text) c.level.ensures (sym c.in-Some.is ∙ c.level_named.ensures)
    ∙ ap (λ t. level t (state_of mid w)) (same_text old.values.store c.make_text.new.self.store c.args.word c.in_ok-make_text.ensures.stack c.in_ok-make_text.ensures.same.cells))
    (done_runs told refl refl))

pub returns-in-None-clause-answer : goal.returns-in-None-clause-answer
returns-in-None-clause-answer g c here w told =
    let old = c.args.self.now in
    let mid = record old { values = c.make_text.new.self } in
    let word = text_at c.make_text.new.self.store c.args.word in
    from_same old mid (level (text_at old.values.store c.args.word)) (search rules)
    (runs_as (level_found word c.lend.result.now c.level.result None (state_of mid w) (bytes-are _ _ c.lend.ensures.utf8 c.lend.ensures.text) c.level.ensures (sym c.in-None.is ∙ c.level_named.ensures)
    ∙ ap (λ t. level t (state_of mid w)) (same_text old.values.store c.make_text.new.self.store c.args.word c.in_ok-make_text.ensures.stack c.in_ok-make_text.ensures.same.cells))
    (raise_first mid message.BadLevel message.BadLevel _ NoCode NoCode told c.raise_at.ensures.same refl refl c.raise_at.ensures.raises))
