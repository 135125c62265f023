use Rattle.std.proofs.Common.{rules, ap, ◌∙◌, drop}
use Rattle.std.specs.Prelude.{codes, not}
use Rattle.tclv_engine.specs.State.{state_of}
use Rattle.tclv_engine.proofs.Binds.{runs_as}
use Rattle.tclv_engine.proofs.Leaves.{memory_runs, from_same}
use Rattle.tclv_engine.proofs.WordLemmas.{same_then}
use Rattle.tclv_plain.specs.UnsetRows.{behind, unset_all, unset_words}
use Rattle.tclv_plain.proofs.unset_commands.unset_words.Goals as goal

pub returns-in_err-silent-clause-answer : goal.returns-in_err-silent-clause-answer
returns-in_err-silent-clause-answer g c here w told = memory_runs (search rules) told c.begins_with.ensures.same.events

pub returns-in_err-options_end-clause-answer : goal.returns-in_err-options_end-clause-answer
returns-in_err-options_end-clause-answer g c here w told = memory_runs (search rules) told (c.behind.ensures.same.events ∙ c.begins_with.ensures.same.events)

pub returns-in_err-names-clause-answer : goal.returns-in_err-names-clause-answer
returns-in_err-names-clause-answer g c here w told = memory_runs (search rules) told (c.behind-2.ensures.same.events ∙ c.behind.ensures.same.events ∙ c.begins_with.ensures.same.events)

pub returns-clause-answer : goal.returns-clause-answer
returns-clause-answer g c here w told =
    let old = c.args.machine.now in
    let mid = c.behind-2.new.machine in
    let st = state_of mid w in
    let stack = old.values.store.stack in
    let words = drop c.args.from stack in
    let silent = c.in_ok-silent.silent in
    let names = c.in_ok-names.names in
    let end = c.in_ok-options_end.options_end in
    let same = same_then old c.begins_with.new.machine mid c.begins_with.ensures.same (same_then c.begins_with.new.machine c.behind.new.machine mid c.behind.ensures.same c.behind-2.ensures.same) in
    from_same old mid (unset_words words) same
    (runs_as
    (ap (λ s. unset_all (not silent) (drop names s) st) c.behind-2.ensures.stack
    ∙ ap (λ ws. unset_all (not silent) ws st) c.in_ok-names.ensures.rest
    ∙ ap (λ s. unset_all (not silent) (behind (codes "--") (drop end s)) st) c.behind.ensures.stack
    ∙ ap (λ ws. unset_all (not silent) (behind (codes "--") ws) st) c.in_ok-options_end.ensures.rest
    ∙ ap (λ s. unset_all (not silent) (behind (codes "--") (behind (codes "-nocomplain") (drop c.args.from s))) st) c.begins_with.ensures.stack
    ∙ ap (λ b. unset_all (not b) (behind (codes "--") (behind (codes "-nocomplain") words)) st) c.in_ok-silent.ensures.answer)
    (c.unset_all.ensures.answer here w told))
