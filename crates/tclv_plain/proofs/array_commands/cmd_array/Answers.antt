use Rattle.std.proofs.Common.{rules, ap, sym, ◌∙◌, ◌-◌, ◌+◌, ◌<◌, [], get_or, arith}
use Rattle.tclv_value.specs.Stacks.{top}
use Rattle.tclv_model.specs.declared.messages.MessageId.TheVariants.{UnknownSubcommand}
use Rattle.tclv_model.specs.declared.error_codes.ErrorCode.TheVariants.{NoCode}
use Rattle.tclv_model.specs.declared.usages.Usage.TheVariants as command
use Rattle.tclv_model.specs.Usages.{usage_of}
use Rattle.tclv_engine.specs.State.{state_of}
use Rattle.tclv_engine.proofs.Binds.{runs_as}
use Rattle.tclv_engine.proofs.Leaves.{memory_runs, from_same}
use Rattle.tclv_engine.proofs.WordLemmas.{usage_runs, first_of_top, raise_at_runs, same_then}
use Rattle.tclv_plain.specs.ArrayRows.{array_row, row_array}
use Rattle.tclv_plain.proofs.ArrayLemmas.{array_refused, array_given, array_unknown}
use Rattle.tclv_plain.proofs.array_commands.cmd_array.Goals as goal

pub returns-then-n-eq1-clause-answer : goal.returns-then-n-eq1-clause-answer
returns-then-n-eq1-clause-answer g c here w told =
    let stack = c.args.machine.now.values.store.stack in
    runs_as (array_refused stack c.args.n (state_of c.args.machine.now w) (search rules) c.requires.words)
    (usage_runs c.args.machine.now (usage_of command.Array) _ (top c.args.n stack) told c.misused.ensures.same
    (ap (λ l. get_or stack (l - c.args.n) []) c.height.ensures ∙ first_of_top stack c.args.n c.requires.some c.requires.words) c.misused.ensures.raises)

pub returns-in_err-command-clause-answer : goal.returns-in_err-command-clause-answer
returns-in_err-command-clause-answer g c here w told = memory_runs (search rules) told c.array_at.ensures.same.events

pub returns-in-Some-clause-answer : goal.returns-in-Some-clause-answer
returns-in-Some-clause-answer g c here w told =
    let old = c.args.machine.now in
    let mid = c.array_at.new.machine in
    let stack = old.values.store.stack in
    let base = c.height.result - c.args.n in
    let some : 1 < c.args.n = search (rules, arith) in
    from_same old mid (row_array (top c.args.n stack)) c.array_at.ensures.same
    (runs_as
    (ap (λ s. array_row c.in-Some.command (top c.args.n s) (state_of mid w)) c.array_at.ensures.stack
    ∙ array_given stack c.args.n base (state_of mid w) some c.requires.words (ap (λ l. l - c.args.n) c.height.ensures) c.in-Some.command (sym c.in_ok-command.ensures.answer ∙ c.in-Some.is))
    (c.run_array.ensures.answer here w told))

pub returns-in-None-clause-answer : goal.returns-in-None-clause-answer
returns-in-None-clause-answer g c here w told =
    let old = c.args.machine.now in
    let mid = c.array_at.new.machine in
    let stack = old.values.store.stack in
    let base = c.height.result - c.args.n in
    let some : 1 < c.args.n = search (rules, arith) in
    runs_as (array_unknown stack c.args.n base (state_of old w) some c.requires.words (ap (λ l. l - c.args.n) c.height.ensures) (sym c.in_ok-command.ensures.answer ∙ c.in-None.is))
    (raise_at_runs old UnknownSubcommand _ (get_or stack (base + 1) []) NoCode told (same_then old mid c.raise_at.new.self c.array_at.ensures.same c.raise_at.ensures.same)
    (ap (λ s. get_or s (base + 1) []) c.array_at.ensures.stack) c.raise_at.ensures.raises)
