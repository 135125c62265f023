use Rattle.std.proofs.Common.{◌∙◌, refl, sym, ap}
use Rattle.std.specs.Str.{chars}
use Rattle.tclv_vars.specs.Indices.{count_of}
use Rattle.tclv_reply.specs.Names.{naming}
use Rattle.tclv_engine.specs.Results.{done}
use Rattle.tclv_engine.specs.State.{state_of}
use Rattle.tclv_engine.proofs.Binds.{runs_as}
use Rattle.tclv_engine.proofs.Leaves.{raise_runs, done_runs}
use Rattle.tclv_engine.proofs.NameLemmas.{bytes-are}
use Rattle.tclv_plain.specs.UnsetRows.{cleared}
use Rattle.tclv_plain.specs.ArrayRows.{unset_whole}
use Rattle.tclv_plain.proofs.UnsetLemmas.{cleared_state}
use Rattle.tclv_plain.proofs.ArrayLemmas.{array-unbuilt, array-built}
use Rattle.tclv_plain.proofs.array_unsetting.unset_whole.Goals as goal

pub returns-then-shape-clause-answer : goal.returns-then-shape-clause-answer
returns-then-shape-clause-answer g c here w told =
    let name = chars c.args.name.now in
    runs_as (array-unbuilt c.args.name.now name (λ found s1. unset_whole name (count_of found) s1) (state_of c.args.machine.now w) (bytes-are _ _ c.requires refl) (sym (ap (λ s. s.qualified) c.of-shape.ensures) ∙ c.if-shape.true))
    (raise_runs c.args.machine.now told c.not_built.ensures.same c.not_built.ensures.raises)

pub returns-in-Ok-clause-answer : goal.returns-in-Ok-clause-answer
returns-in-Ok-clause-answer g c here w told =
    let old = c.args.machine.now in
    let name = chars c.args.name.now in
    let named = bytes-are c.args.name.now name c.requires refl in
    let st = state_of old w in
    runs_as
    (ap (done (tt {0})) (cleared_state old c.unset_named-found.new.values (naming c.args.name.now) w c.unset_named-found.ensures.vars c.unset_named-found.ensures.texts)
    ∙ ap (λ b. done (tt {0}) (cleared (naming b) st)) named
    ∙ ap (λ r. unset_whole name r st) (sym c.in-Ok.is ∙ c.size_of.ensures)
    ∙ array-built c.args.name.now name (λ found s1. unset_whole name (count_of found) s1) st named (sym (ap (λ s. s.qualified) c.of-shape.ensures) ∙ c.if-shape.false))
    (done_runs told refl tt)

pub returns-in-Err-clause-answer : goal.returns-in-Err-clause-answer
returns-in-Err-clause-answer g c here w told =
    let old = c.args.machine.now in
    let name = chars c.args.name.now in
    let named = bytes-are c.args.name.now name c.requires refl in
    let st = state_of old w in
    runs_as
    (ap (λ r. unset_whole name r st) (sym c.in-Err.is ∙ c.size_of.ensures)
    ∙ array-built c.args.name.now name (λ found s1. unset_whole name (count_of found) s1) st named (sym (ap (λ s. s.qualified) c.of-shape.ensures) ∙ c.if-shape.false))
    (done_runs told refl tt)
