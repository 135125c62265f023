use Rattle.std.proofs.Common.{refl, ◌∙◌, sym, ap}
use Rattle.std.specs.Str.{chars}
use Rattle.tclv_model.specs.declared.error_codes.ErrorCode.TheVariants.{NoCode}
use Rattle.tclv_reply.specs.Names.{naming}
use Rattle.tclv_engine.specs.State.{state_of}
use Rattle.tclv_engine.specs.Results.{done}
use Rattle.tclv_engine.proofs.Binds.{runs_as}
use Rattle.tclv_engine.proofs.Leaves.{raise_runs, raise_first, done_runs, value_runs}
use Rattle.tclv_engine.proofs.NameLemmas.{bytes-are}
use Rattle.tclv_engine.proofs.WordLemmas.{values_same, values_then}
use Rattle.tclv_plain.specs.UnsetRows.{held_named}
use Rattle.tclv_plain.proofs.UnsetLemmas.{unset-unbuilt, unset-found, found_held, found_none, found_silent, none_changed, cleared_state}
use Rattle.tclv_plain.proofs.unset_commands.unset_text.Goals as goal

pub returns-then-shape-clause-answer : goal.returns-then-shape-clause-answer
returns-then-shape-clause-answer g c here w told =
    runs_as (unset-unbuilt c.args.complains c.args.name.now (chars c.args.name.now) (state_of c.args.machine.now w) (bytes-are _ _ c.requires refl) (sym (ap (λ s. s.qualified) c.of-shape.ensures) ∙ c.if-shape.true))
    (raise_runs c.args.machine.now told c.not_built.ensures.same c.not_built.ensures.raises)

pub returns-in-Ok-clause-answer : goal.returns-in-Ok-clause-answer
returns-in-Ok-clause-answer g c here w told =
    let old = c.args.machine.now in
    let name = chars c.args.name.now in
    let n = naming c.args.name.now in
    let plain = sym (ap (λ s. s.qualified) c.of-shape.ensures) ∙ c.if-shape.false in
    runs_as
    (ap (done (tt {0})) (cleared_state old c.unset_named.new.values n w c.unset_named.ensures.vars c.unset_named.ensures.texts)
    ∙ found_held c.args.complains name n (held_named old.values.vars n) (state_of old w) (sym c.unset_named.ensures.answer ∙ c.in-Ok.is)
    ∙ unset-found c.args.complains c.args.name.now name (state_of old w) (bytes-are _ _ c.requires refl) plain)
    (done_runs told refl tt)

pub returns-then-complains-clause-answer : goal.returns-then-complains-clause-answer
returns-then-complains-clause-answer g c here w told =
    let old = c.args.machine.now in
    let name = chars c.args.name.now in
    let n = naming c.args.name.now in
    let plain = sym (ap (λ s. s.qualified) c.of-shape.ensures) ∙ c.if-shape.false in
    let none = sym c.unset_named.ensures.answer ∙ c.in-Err.is in
    let same = none_changed old.values c.unset_named.new.values n c.in-Err.fault none c.unset_named.ensures.vars c.unset_named.ensures.texts in
    runs_as
    (found_none c.args.complains name n (held_named old.values.vars n) c.in-Err.fault (state_of old w) none c.if-complains.true
    ∙ unset-found c.args.complains c.args.name.now name (state_of old w) (bytes-are _ _ c.requires refl) plain)
    (raise_first old _ _ _ NoCode _ told (values_then old c.raise.new.self c.unset_named.new.values same c.raise.ensures.same) c.unsetting_message.ensures refl c.raise.ensures.raises)

pub returns-else-complains-clause-answer : goal.returns-else-complains-clause-answer
returns-else-complains-clause-answer g c here w told =
    let old = c.args.machine.now in
    let name = chars c.args.name.now in
    let n = naming c.args.name.now in
    let plain = sym (ap (λ s. s.qualified) c.of-shape.ensures) ∙ c.if-shape.false in
    let none = sym c.unset_named.ensures.answer ∙ c.in-Err.is in
    let same = none_changed old.values c.unset_named.new.values n c.in-Err.fault none c.unset_named.ensures.vars c.unset_named.ensures.texts in
    runs_as
    (found_silent c.args.complains name n (held_named old.values.vars n) c.in-Err.fault (state_of old w) none c.if-complains.false
    ∙ unset-found c.args.complains c.args.name.now name (state_of old w) (bytes-are _ _ c.requires refl) plain)
    (value_runs old told (values_same old c.unset_named.new.values same) tt)
