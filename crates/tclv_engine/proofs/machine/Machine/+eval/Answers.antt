use Rattle.std.proofs.Common.{◌≡◌, List, ◌<◌, ◌≤◌, ◌+◌, ◌-◌, ◌∷◌, [], ◌++◌, length, rules, arith, subst, sym, ap, ◌∙◌, ℕ, Ok, Err, refl, drop, take, get_or, true, false, if◌then◌else◌}
use Rattle.tclv_model.specs.declared.messages.MessageId.TheVariants as message
use Rattle.tclv_model.specs.declared.error_codes.ErrorCode.TheVariants.{NoCode}
use Rattle.tclv_engine.specs.State.{Text, state_of}
use Rattle.tclv_engine.specs.Results.{done, ok, plain, bind}
use Rattle.tclv_engine.specs.Words.{words, joined, part_value, expanded, bracketed}
use Rattle.tclv_engine.specs.Variables.{variable, element_value}
use Rattle.tclv_engine.specs.Evaluation.{whole, steady, text, body, body_inside, inner, lead, choose, perform, sequence, command, call}
use Rattle.tclv_engine.specs.declared.plans.Plan.{Plan}
use Rattle.tclv_engine.specs.Frames.{entered, text_count, level_current}
use Rattle.tclv_engine.proofs.FrameLemmas.{framed_by, restored_runs, restored_pushes, level_state}
use Rattle.tclv_engine.specs.Plans.{PlanOver, inner_of, placed, placed_or_none, wanted_of, lead_of, alternatives_of, concluded}
use Rattle.tclv_engine.specs.Answers.{outer, returned, last_of, as_outcome, Leaves, PushesOne, PushesResult, stacked, on_top, Over, Keeps}
use Rattle.tclv_engine.proofs.Binds.{bind_ok, bind_stop, then_stop, runs_as, answers_as, bind-done, calm_caused}
use Rattle.tclv_engine.proofs.Leaves.{budget_runs, done_runs, value_runs, raise_runs, raise_first, raise_bare, memory_runs, from_same, then_same, same_state}
use Rattle.tclv_engine.proofs.StackLemmas.{top-stacked, settled, over_push, over-popped, over-one, last-pushed, pushes_one, keeps_all, keeps_on, keeps-split, drop-more, drop-base}
use Rattle.tclv_engine.proofs.Handed.{push-memory}
use Rattle.std.specs.Str.{chars}
use Rattle.std.proofs.lemmas.Str.{chars-nil}
use Rattle.tclv_value.specs.Stacks.{top, under}
use Rattle.tclv_engine.proofs.PartLemmas.{literal-part, variable-part, element-part, script-part}
use Rattle.tclv_engine.proofs.Walks.{begins}
use Rattle.tclv_engine.proofs.Steps.{sequence-step, sequence-end, words-step, words-end, joined-step, joined-end, joined-one, element-step, element-end, outcome-is, one-item}
use Rattle.tclv_engine.proofs.Depths.{over_limit, under_limit, back_runs}
use Rattle.tclv_parse.specs.Grammar.{commands}
use Rattle.tclv_value.specs.View.{text_at}
use Rattle.tclv_model.specs.Values.{list_of}
use Rattle.tclv_engine.specs.DataAnswers.{of_answer}
use Rattle.tclv_engine.proofs.ExpandLemmas.{stacked_on, words_on}
use Rattle.tclv_engine.proofs.WordLemmas.{values_same, values_then}
use Rattle.tclv_value.specs.declared.places.At.TheVariants.{Stack}
use Rattle.tclv_engine.specs.Loops.{paid_body, between_turns}
use Rattle.tclv_engine.specs.TestedLoops.{stepped_loop, turned}
use Rattle.tclv_engine.proofs.LoopLemmas.{body_runs, body_leaves, body_caused, between_runs, between_leaves, between_caused, more_is, starts, goes_again, ends_there, stops_there}
use Rattle.tclv_engine.specs.EachLoops.{assign_groups, each_turn, each_turns, each_of, turn_count, result_of}
use Rattle.tclv_engine.specs.EachSteps.{groups_at}
use Rattle.tclv_engine.proofs.ForeachLemmas.{all_same, all_kept, groups_kept}
use Rattle.tclv_engine.proofs.EachLemmas.{each_starts, each_goes, each_breaks, each_ends, each_stops, keeps_results, turn_stops, result_is, turns_known}
use Rattle.tclv_engine.specs.Operations.{truth_of}
use Rattle.tclv_engine.specs.Functions.{call as expression_call}
use Rattle.tclv_engine.specs.Expressions.{settled as settled_value}
use Rattle.tclv_exprp.specs.declared.instructions.Operation.{Operation}
use Rattle.tclv_exprp.specs.declared.instructions.Instruction.{Instruction}
use Rattle.tclv_engine.specs.Instructions.{does, operated, takes, kept, Stands, run, run_between, run_turn}
use Rattle.tclv_engine.proofs.RunLemmas.{Running, run_starts, run_step, run_end, run_on, result_same, test_same, turned_is, between_kept, running_starts, running_as, running_needs, kept_keeps, running_on, running_ends, stops_as, operate_stops, pushes_over}
use Rattle.tclv_engine.specs.Results.{outcome}
use Rattle.tclv_engine.proofs.PlanLemmas.{call-empty, call-some, around-step, around-end, concluding_runs, ended_above, steady_runs, choose-step, choose-end, plan_keeps, plan_lower, lowest_kept, under_length, stopped_lowest}
use Rattle.tclv_engine.specs.Expressions.{condition}
use Rattle.tclv_engine.proofs.machine.Machine.+eval.Goals as goal

-- ---- a command

pub command-returns-in_err-take_unit-clause-answer : goal.command-returns-in_err-take_unit-clause-answer
unfolding command
command-returns-in_err-take_unit-clause-answer g t c w told =
    then_stop _ (search rules) (c.in_err-take_unit.ensures.answer (outer (g.O.Outside.told c.args.out.now) (g.O.Outside.torn c.args.out.now)) w told)

pub command-returns-in_err-words-clause-answer : goal.command-returns-in_err-words-clause-answer
unfolding command
command-returns-in_err-words-clause-answer g t c w told =
    bind_ok _ (c.in_ok-take_unit.ensures.answer (outer (g.O.Outside.told c.args.out.now) (g.O.Outside.torn c.args.out.now)) w told)
    (λ u v e shown. then_stop _ (search rules) (c.in_err-words.ensures.answer v e))

pub command-returns-in_err-kept-clause-answer : goal.command-returns-in_err-kept-clause-answer
unfolding command
command-returns-in_err-kept-clause-answer g t c w told =
    bind_ok _ (c.in_ok-take_unit.ensures.answer (outer (g.O.Outside.told c.args.out.now) (g.O.Outside.torn c.args.out.now)) w told)
    (λ u v e shown. bind_ok _ (c.in_ok-words.ensures.answer v e)
    (λ texts v2 e2 over.
    let count : c.height.result - c.height-height.result ≡ length c.words.new.self.values.store.stack - length c.take_unit.new.self.values.store.stack = omega (arith, ap length c.in_ok-take_unit.ensures.stack) in
    runs_as (ap (λ ws. call g.H.Host.given (whole g.H.Host.given) ws (state_of c.words.new.self v2)) (top-stacked c.take_unit.new.self.values.store.stack texts c.words.new.self.values.store.stack (c.height.result - c.height-height.result) over count))
    (answers_as (search rules) (c.in_err-kept.ensures.answer v2 e2))))

pub command-returns-clause-answer : goal.command-returns-clause-answer
unfolding command
command-returns-clause-answer g t c w told =
    bind_ok _ (c.in_ok-take_unit.ensures.answer (outer (g.O.Outside.told c.args.out.now) (g.O.Outside.torn c.args.out.now)) w told)
    (λ u v e shown. bind_ok _ (c.in_ok-words.ensures.answer v e)
    (λ texts v2 e2 over.
    let count : c.height.result - c.height-height.result ≡ length c.words.new.self.values.store.stack - length c.take_unit.new.self.values.store.stack = omega (arith, ap length c.in_ok-take_unit.ensures.stack) in
    runs_as (ap (λ ws. call g.H.Host.given (whole g.H.Host.given) ws (state_of c.words.new.self v2)) (top-stacked c.take_unit.new.self.values.store.stack texts c.words.new.self.values.store.stack (c.height.result - c.height-height.result) over count))
    (then_same (c.in_ok-kept.ensures.answer v2 e2) c.settle.ensures.same
    (λ o shown. (settled c.call.new.self.values.store.stack c.settle.new.self.values.store.stack c.height-height.result c.settle.ensures.stack ∙ shown.0, shown.1)))))

-- ---- scripts, words, expressions, loops

pub commands-returns-in_err-push_text-clause-answer : goal.commands-returns-in_err-push_text-clause-answer
commands-returns-in_err-push_text-clause-answer g t c w told =
    memory_runs (search rules ∙ ap Err (push-memory (chars []) c.args.self.now.values.store.stack c.in_err-push_text.field-0.0 c.push_text.new.self.values.store.stack c.in_err-push_text.ensures.stack)) told c.in_err-push_text.ensures.same.events

pub commands-loop-command-init : goal.commands-loop-command-init
commands-loop-command-init g t c =
    let stack = c.push_text.new.self.values.store.stack in
    let pushed : stack ≡ c.args.self.now.values.store.stack ++ chars [] ∷ [] = c.in_ok-push_text.ensures.stack in
    begins as_outcome c.args.self.now c.push_text.new.self (outer (g.O.Outside.told c.args.out.now) (g.O.Outside.torn c.args.out.now)) (g.O.Outside.faults c.args.out.now)
    (Over 1 c.args.self.now.values.store.stack stack)
    (g.H.Host.fits c.push_text.new.self.own (g.O.Outside.told c.args.out.now) ≡ true)
    (λ st. sequence g.H.Host.given (whole g.H.Host.given) (plain []) c.args.commands.now c.args.fault st)
    (λ st. sequence g.H.Host.given (whole g.H.Host.given) (plain (last_of stack)) c.args.commands.now c.args.fault st)
    (over_push _ _ _ pushed)
    (ap (λ x. g.H.Host.fits x (g.O.Outside.told c.args.out.now)) c.in_ok-push_text.ensures.same.own ∙ c.requires.fits) c.in_ok-push_text.ensures.same.units c.in_ok-push_text.ensures.same.events
    (λ w. ap (λ x. sequence g.H.Host.given (whole g.H.Host.given) (plain x) c.args.commands.now c.args.fault (state_of c.push_text.new.self w)) (last-pushed _ _ _ pushed ∙ chars-nil)
    ∙ ap (λ st. sequence g.H.Host.given (whole g.H.Host.given) (plain []) c.args.commands.now c.args.fault st) (same_state c.args.self.now c.push_text.new.self w c.in_ok-push_text.ensures.same))

pub commands-returns-in_err-last-clause-answer : goal.commands-returns-in_err-last-clause-answer
commands-returns-in_err-last-clause-answer g t c w told =
    let mid = record c.loop-command.self { values = c.pop.new.self } in
    let last = outcome c.loop-command.last (last_of c.loop-command.self.values.store.stack) in
    c.loop-command.invariant.goes w told _ _ _
    (λ v e. from_same c.loop-command.self mid (λ st. sequence g.H.Host.given (whole g.H.Host.given) last (drop c.loop-command.command-index c.args.commands.now) c.args.fault st) (search rules)
    (runs_as (sequence-step g.H.Host.given (whole g.H.Host.given) last c.args.commands.now c.args.fault c.loop-command.command-index c.command-item.result (state_of mid v) (search rules) (search rules))
    (then_stop _ (search rules) (c.in_err-last.ensures.answer v e))))

pub commands-loop-command-preserved : goal.commands-loop-command-preserved
commands-loop-command-preserved g t c =
    let mid = record c.loop-command.self { values = c.pop.new.self } in
    let last = outcome c.loop-command.last (last_of c.loop-command.self.values.store.stack) in
    let base : c.pop.new.self.store.stack ≡ c.args.self.now.values.store.stack = c.pop.ensures.popped ∙ over-popped _ _ c.loop-command.invariant.shape in
    record {
      quiet = c.in_ok-last.ensures.cause ∙ c.loop-command.invariant.quiet;
      units_left = omega (arith, c.loop-command.invariant.units_left, c.in_ok-last.ensures.units);
      shape = subst (λ b. Over 1 b c.command.new.self.values.store.stack) base c.in_ok-last.ensures.stack;
      fits = c.in_ok-last.ensures.fits;
      goes = λ w told r after end k.
          c.loop-command.invariant.goes w told _ _ _
          (λ v e. from_same c.loop-command.self mid (λ st. sequence g.H.Host.given (whole g.H.Host.given) last (drop c.loop-command.command-index c.args.commands.now) c.args.fault st) (search rules)
          (runs_as (sequence-step g.H.Host.given (whole g.H.Host.given) last c.args.commands.now c.args.fault c.loop-command.command-index c.command-item.result (state_of mid v) (search rules) (search rules))
          (bind_ok _ (c.in_ok-last.ensures.answer v e)
          (λ o v2 e2 shown. runs_as (ap (λ x. sequence g.H.Host.given (whole g.H.Host.given) x (drop (c.loop-command.command-index + 1) c.args.commands.now) c.args.fault (state_of c.command.new.self v2)) (outcome-is o c.in_ok-last.last c.command.new.self.values.store.stack shown)) (k v2 e2)))));
    }

pub commands-returns-clause-answer : goal.commands-returns-clause-answer
commands-returns-clause-answer g t c w told =
    c.loop-command.invariant.goes w told _ _ _
    (λ v e. runs_as (sequence-end g.H.Host.given (whole g.H.Host.given) (outcome c.loop-command.last (last_of c.loop-command.self.values.store.stack)) c.args.commands.now c.args.fault c.loop-command.command-index (state_of c.loop-command.self v) (search rules))
    (c.end_script.ensures.answer (outer (g.O.Outside.told c.loop-command.out) (g.O.Outside.torn c.loop-command.out)) v e))

pub script-returns-then-self-ge-MAX_DEPTH-clause-answer : goal.script-returns-then-self-ge-MAX_DEPTH-clause-answer
script-returns-then-self-ge-MAX_DEPTH-clause-answer g t c w told =
    runs_as (over_limit g.H.Host.given c.args.script.now (state_of c.args.self.now w) c.if-self-ge-MAX_DEPTH.true)
    (raise_bare c.args.self.now message.TooManyNestedEvaluations message.TooManyNestedEvaluations NoCode NoCode told c.raise.ensures.same refl refl c.raise.ensures.raises)

pub script-returns-clause-answer : goal.script-returns-clause-answer
script-returns-clause-answer g t c w told =
    runs_as (under_limit g.H.Host.given c.args.script.now (state_of c.args.self.now w) (search (rules, c.if-self-ge-MAX_DEPTH.false)))
    (back_runs _ _ _ _ _ _ (c.commands-ended.ensures.answer w told))

pub words-loop-word-init : goal.words-loop-word-init
words-loop-word-init g t c =
    let base = c.args.self.now.values.store.stack in
    begins (stacked base) c.args.self.now c.args.self.now (outer (g.O.Outside.told c.args.out.now) (g.O.Outside.torn c.args.out.now)) (g.O.Outside.faults c.args.out.now)
    (Keeps base base)
    (g.H.Host.fits c.args.self.now.own (g.O.Outside.told c.args.out.now) ≡ true)
    (λ st. words (whole g.H.Host.given) [] c.args.words.now st)
    (λ st. words (whole g.H.Host.given) (drop (length base) base) c.args.words.now st)
    (keeps_all base) c.requires.fits refl refl
    (λ w. ap (λ x. words (whole g.H.Host.given) x c.args.words.now (state_of c.args.self.now w)) (drop-base base))

pub words-returns-in_err-word-clause-answer : goal.words-returns-in_err-word-clause-answer
words-returns-in_err-word-clause-answer g t c w told =
    c.loop-word.invariant.goes w told _ _ _
    (λ v e. runs_as (words-step (whole g.H.Host.given) (drop (length c.args.self.now.values.store.stack) c.loop-word.self.values.store.stack) c.args.words.now c.loop-word.word-index c.word-item.result (state_of c.loop-word.self v) (search rules) (search rules))
    (then_stop _ (search rules) (c.in_err-word.ensures.answer v e)))

pub words-loop-word-preserved : goal.words-loop-word-preserved
words-loop-word-preserved g t c =
    let base = c.args.self.now.values.store.stack in
    let mid = c.loop-word.self.values.store.stack in
    record {
      quiet = c.in_ok-word.ensures.cause ∙ c.loop-word.invariant.quiet;
      units_left = omega (arith, c.loop-word.invariant.units_left, c.in_ok-word.ensures.units);
      shape = keeps_on base mid c.word.new.self.values.store.stack c.loop-word.invariant.shape c.in_ok-word.ensures.stack;
      fits = c.in_ok-word.ensures.fits;
      goes = λ w told r after end k.
          c.loop-word.invariant.goes w told _ _ _
          (λ v e. runs_as (words-step (whole g.H.Host.given) (drop (length base) mid) c.args.words.now c.loop-word.word-index c.word-item.result (state_of c.loop-word.self v) (search rules) (search rules))
          (bind_ok _ (c.in_ok-word.ensures.answer v e)
          (λ texts v2 e2 over. runs_as (ap (λ x. words (whole g.H.Host.given) x (drop (c.loop-word.word-index + 1) c.args.words.now) (state_of c.word.new.self v2)) (drop-more base mid c.word.new.self.values.store.stack texts c.loop-word.invariant.shape.some over)) (k v2 e2))));
    }

pub words-returns-clause-answer : goal.words-returns-clause-answer
words-returns-clause-answer g t c w told =
    let base = c.args.self.now.values.store.stack in
    let stack = c.loop-word.self.values.store.stack in
    c.loop-word.invariant.goes w told _ _ _
    (λ v e. runs_as (words-end (whole g.H.Host.given) (drop (length base) stack) c.args.words.now c.loop-word.word-index (state_of c.loop-word.self v) (search rules))
    (done_runs e refl (keeps-split base stack c.loop-word.invariant.shape)))

pub word-returns-in_err-substitute-clause-answer : goal.word-returns-in_err-substitute-clause-answer
word-returns-in_err-substitute-clause-answer g t c w told =
    then_stop _ (search rules) (c.in_err-substitute.ensures.answer w told)

pub word-returns-then-word-clause-answer : goal.word-returns-then-word-clause-answer
word-returns-then-word-clause-answer g t c w told =
    let base = over-popped c.args.self.now.values.store.stack c.substitute.new.self.values.store.stack c.in_ok-substitute.ensures.stack in
    bind_ok _ (c.in_ok-substitute.ensures.answer w told)
    (λ text v e shown. runs_as (ap (λ t. of_answer (list_of t) (state_of c.substitute.new.self v)) shown ∙ ap (λ x. expanded x text (state_of c.substitute.new.self v)) (sym c.if-word.true))
    (stacked_on base (c.expand.ensures.answer (outer (g.O.Outside.told c.substitute.new.out) (g.O.Outside.torn c.substitute.new.out)) v e)))

pub word-returns-then-word-clause-stack : goal.word-returns-then-word-clause-stack
word-returns-then-word-clause-stack g t c =
    words_on c.expand.result c.expand.new.self.values.store.stack (over-popped c.args.self.now.values.store.stack c.substitute.new.self.values.store.stack c.in_ok-substitute.ensures.stack) c.expand.ensures.stack

pub word-returns-then-word-clause-cause : goal.word-returns-then-word-clause-cause
word-returns-then-word-clause-cause g t c = calm_caused c.expand.result _ _ c.expand.ensures.calm c.in_ok-substitute.ensures.cause

pub word-returns-clause-answer : goal.word-returns-clause-answer
word-returns-clause-answer g t c w told =
    bind_ok _ (c.in_ok-substitute.ensures.answer w told)
    (λ text v e shown. runs_as (ap (λ x. expanded x text (state_of c.substitute.new.self v)) (sym c.if-word.false)) (done_runs e refl (over-one _ _ text c.in_ok-substitute.ensures.stack shown)))

pub substitute-returns-in-len1-clause-answer : goal.substitute-returns-in-len1-clause-answer
substitute-returns-in-len1-clause-answer g t c w told =
    let value = part_value c.args.levels (whole g.H.Host.given) in
    runs_as (sym (bind-done (value c.only-item.result (state_of c.args.self.now w))) ∙ joined-one value c.args.parts.now c.only-item.result (state_of c.args.self.now w) (one-item c.args.parts.now c.only-item.result (search rules) (search rules) (search rules)))
    (c.part.ensures.answer w told)

pub substitute-loop-part-init : goal.substitute-loop-part-init
substitute-loop-part-init g t c =
    let empty : c.new-text.result ≡ [] = c.new-text.ensures ∙ ap chars c.new.ensures.items ∙ chars-nil in
    begins on_top c.args.self.now c.args.self.now (outer (g.O.Outside.told c.args.out.now) (g.O.Outside.torn c.args.out.now)) (g.O.Outside.faults c.args.out.now)
    (c.args.self.now.values.store.stack ≡ c.args.self.now.values.store.stack)
    (g.H.Host.fits c.args.self.now.own (g.O.Outside.told c.args.out.now) ≡ true)
    (λ st. joined (part_value c.args.levels (whole g.H.Host.given)) [] c.args.parts.now st)
    (λ st. joined (part_value c.args.levels (whole g.H.Host.given)) c.new-text.result c.args.parts.now st)
    refl c.requires.fits refl refl
    (λ w. ap (λ x. joined (part_value c.args.levels (whole g.H.Host.given)) x c.args.parts.now (state_of c.args.self.now w)) empty)

pub substitute-returns-in_err-part-clause-answer : goal.substitute-returns-in_err-part-clause-answer
substitute-returns-in_err-part-clause-answer g t c w told =
    c.loop-part.invariant.goes w told _ _ _
    (λ v e. runs_as (joined-step (part_value c.args.levels (whole g.H.Host.given)) c.loop-part.text c.args.parts.now c.loop-part.part-index c.part-item.result (state_of c.loop-part.self v) (search rules) (search rules))
    (then_stop _ (search rules) (c.in_err-part.ensures.answer v e)))

pub substitute-returns-in_err-take_onto-clause-answer : goal.substitute-returns-in_err-take_onto-clause-answer
substitute-returns-in_err-take_onto-clause-answer g t c w told =
    c.loop-part.invariant.goes w told _ _ _
    (λ v e. runs_as (joined-step (part_value c.args.levels (whole g.H.Host.given)) c.loop-part.text c.args.parts.now c.loop-part.part-index c.part-item.result (state_of c.loop-part.self v) (search rules) (search rules))
    (bind_ok _ (c.in_ok-part.ensures.answer v e)
    (λ text v2 e2 shown. memory_runs (search rules) e2 c.take_onto.ensures.same.events)))

pub substitute-loop-part-preserved : goal.substitute-loop-part-preserved
substitute-loop-part-preserved g t c =
    record {
      quiet = c.in_ok-part.ensures.cause ∙ c.loop-part.invariant.quiet;
      units_left = omega (arith, c.loop-part.invariant.units_left, c.in_ok-part.ensures.units, c.take_onto.ensures.same.units);
      shape = c.in_ok-take_onto.ensures.stack ∙ over-popped _ _ c.in_ok-part.ensures.stack ∙ c.loop-part.invariant.shape;
      fits = ap (λ x. g.H.Host.fits x (g.O.Outside.told c.part-in-loop-part.new.out)) c.take_onto.ensures.same.own ∙ c.in_ok-part.ensures.fits;
      goes = λ w told r after end k.
          c.loop-part.invariant.goes w told _ _ _
          (λ v e. runs_as (joined-step (part_value c.args.levels (whole g.H.Host.given)) c.loop-part.text c.args.parts.now c.loop-part.part-index c.part-item.result (state_of c.loop-part.self v) (search rules) (search rules))
          (bind_ok _ (c.in_ok-part.ensures.answer v e)
          (λ text v2 e2 shown. from_same c.part-in-loop-part.new.self c.take_onto.new.self (λ st. joined (part_value c.args.levels (whole g.H.Host.given)) (c.loop-part.text ++ text) (drop (c.loop-part.part-index + 1) c.args.parts.now) st) c.take_onto.ensures.same
          (runs_as (ap (λ x. joined (part_value c.args.levels (whole g.H.Host.given)) x (drop (c.loop-part.part-index + 1) c.args.parts.now) (state_of c.take_onto.new.self v2)) (c.in_ok-take_onto.ensures.text ∙ ap (λ x. c.loop-part.text ++ x) shown)) (k v2 e2)))));
    }

pub substitute-returns-clause-answer : goal.substitute-returns-clause-answer
substitute-returns-clause-answer g t c w told =
    c.loop-part.invariant.goes w told _ _ _
    (λ v e. runs_as (joined-end (part_value c.args.levels (whole g.H.Host.given)) c.loop-part.text c.args.parts.now c.loop-part.part-index (state_of c.loop-part.self v) (search rules))
    (runs_as (ap (λ x. done x (state_of c.loop-part.self v)) c.bytes.ensures.text) (c.push_text.ensures.answer (outer (g.O.Outside.told c.loop-part.out) (g.O.Outside.torn c.loop-part.out)) v e)))

pub part-returns-in-Literal-clause-answer : goal.part-returns-in-Literal-clause-answer
part-returns-in-Literal-clause-answer g t c w told =
    runs_as (literal-part c.args.levels (whole g.H.Host.given) c.args.part.now (state_of c.args.self.now w) c.in-Literal.text c.in-Literal.is)
    (runs_as (ap (λ x. done x (state_of c.args.self.now w)) c.bytes.ensures.text) (c.push_text.ensures.answer (outer (g.O.Outside.told c.args.out.now) (g.O.Outside.torn c.args.out.now)) w told))

pub part-returns-in-Variable-clause-answer : goal.part-returns-in-Variable-clause-answer
part-returns-in-Variable-clause-answer g t c w told =
    runs_as (variable-part c.args.levels (whole g.H.Host.given) c.args.part.now (state_of c.args.self.now w) c.in-Variable.name c.in-Variable.is)
    (runs_as (ap (λ x. variable x (state_of c.args.self.now w)) c.bytes-in-Variable.ensures.text) (c.push_variable.ensures.answer (outer (g.O.Outside.told c.args.out.now) (g.O.Outside.torn c.args.out.now)) w told))

pub part-returns-in-Element-clause-answer : goal.part-returns-in-Element-clause-answer
part-returns-in-Element-clause-answer g t c w told =
    runs_as (element-part c.args.levels (whole g.H.Host.given) c.args.part.now (state_of c.args.self.now w) c.in-Element.name c.in-Element.index c.in-Element.is)
    (c.element.ensures.answer w told)

pub part-returns-in_err-script-in-Script-clause-answer : goal.part-returns-in_err-script-in-Script-clause-answer
part-returns-in_err-script-in-Script-clause-answer g t c w told =
    runs_as (script-part c.args.levels (whole g.H.Host.given) c.args.part.now (state_of c.args.self.now w) c.in-Script.script c.in-Script.is)
    (runs_as (ap (λ s. bracketed (whole g.H.Host.given) s (state_of c.args.self.now w)) c.get.ensures)
    (then_stop _ (search rules) (c.in_err-script-in-Script.ensures.answer w told)))

pub part-returns-in_ok-script-in-Script-clause-answer : goal.part-returns-in_ok-script-in-Script-clause-answer
part-returns-in_ok-script-in-Script-clause-answer g t c w told =
    runs_as (script-part c.args.levels (whole g.H.Host.given) c.args.part.now (state_of c.args.self.now w) c.in-Script.script c.in-Script.is)
    (runs_as (ap (λ s. bracketed (whole g.H.Host.given) s (state_of c.args.self.now w)) c.get.ensures)
    (bind_ok _ (c.in_ok-script-in-Script.ensures.answer w told) (λ o v e shown. done_runs e refl shown.0)))

pub element-returns-then-levels-eq0-clause-answer : goal.element-returns-then-levels-eq0-clause-answer
element-returns-then-levels-eq0-clause-answer g t c w told =
    runs_as (element-end c.args.levels (whole g.H.Host.given) c.args.name.now c.args.index.now (state_of c.args.self.now w) c.if-levels-eq0.true)
    (raise_bare c.args.self.now message.TooManyNestedBrackets message.TooManyNestedBrackets NoCode NoCode told c.raise.ensures.same refl refl c.raise.ensures.raises)

pub element-returns-in_err-substitute-clause-answer : goal.element-returns-in_err-substitute-clause-answer
element-returns-in_err-substitute-clause-answer g t c w told =
    runs_as (element-step c.args.levels (whole g.H.Host.given) c.args.name.now c.args.index.now (state_of c.args.self.now w) (search (rules, c.if-levels-eq0.false)))
    (then_stop _ (search rules) (c.in_err-substitute.ensures.answer w told))

pub element-returns-clause-answer : goal.element-returns-clause-answer
element-returns-clause-answer g t c w told =
    runs_as (element-step c.args.levels (whole g.H.Host.given) c.args.name.now c.args.index.now (state_of c.args.self.now w) (search (rules, c.if-levels-eq0.false)))
    (bind_ok _ (c.in_ok-substitute.ensures.answer w told)
    (λ text v e shown. runs_as
    (ap (λ a. element_value a (last_of c.substitute.new.self.values.store.stack) (state_of c.substitute.new.self v)) c.bytes.ensures.text
    ∙ ap (λ t. element_value c.args.name.now t (state_of c.substitute.new.self v)) shown)
    (c.put_element.ensures.answer (outer (g.O.Outside.told c.substitute.new.out) (g.O.Outside.torn c.substitute.new.out)) v e)))

pub element-returns-clause-stack : goal.element-returns-clause-stack
element-returns-clause-stack g t c =
    let P : List Text → Type 0 = λ s. PushesOne s c.put_element.result c.put_element.new.self.values.store.stack in
    subst P (over-popped c.args.self.now.values.store.stack c.substitute.new.self.values.store.stack c.in_ok-substitute.ensures.stack) c.put_element.ensures.stack

pub element-returns-clause-cause : goal.element-returns-clause-cause
element-returns-clause-cause g t c = calm_caused c.put_element.result _ _ c.put_element.ensures.calm c.in_ok-substitute.ensures.cause

pub script_at-returns-in_err-tree-clause-answer : goal.script_at-returns-in_err-tree-clause-answer
script_at-returns-in_err-tree-clause-answer g t c w told = memory_runs (search rules) told refl

pub script_at-returns-clause-answer : goal.script_at-returns-clause-answer
script_at-returns-clause-answer g t c w told =
    let mid = record c.args.self.now { values = c.script.new.self } in
    let script = commands (text_at c.args.self.now.values.store c.args.at) in
    from_same c.args.self.now mid (λ st. (whole g.H.Host.given).script script st) (values_same c.args.self.now c.script.new.self c.in_ok-tree.ensures.same)
    (runs_as (ap (λ s. (whole g.H.Host.given).script s (state_of mid w)) (c.deref.ensures ∙ c.in_ok-tree.ensures.tree))
    (c.script-2.ensures.answer w told))

pub test-returns-in_err-expression-clause-answer : goal.test-returns-in_err-expression-clause-answer
test-returns-in_err-expression-clause-answer g t c w told =
    then_stop _ (search rules) (c.in_err-expression.ensures.answer w told)

pub test-returns-clause-answer : goal.test-returns-clause-answer
test-returns-clause-answer g t c w told =
    bind_ok _ (c.in_ok-expression.ensures.answer w told)
    (λ x v e shown. runs_as (ap (λ y. truth_of y (state_of c.expression.new.self v)) shown) (c.take_truth.ensures.answer (outer (g.O.Outside.told c.expression.new.out) (g.O.Outside.torn c.expression.new.out)) v e))

pub expression-walk-init : goal.expression-walk-init
expression-walk-init g t c =
    let base = c.args.self.now.values.store.stack in
    let all = c.args.instructions.now in
    let first = c.as_slice-rest.result.now in
    begins on_top c.args.self.now c.args.self.now (outer (g.O.Outside.told c.args.out.now) (g.O.Outside.torn c.args.out.now)) (g.O.Outside.faults c.args.out.now)
    (Running first base base)
    (g.H.Host.fits c.args.self.now.own (g.O.Outside.told c.args.out.now) ≡ true)
    (λ st. run (whole g.H.Host.given) all 0 [] st)
    (λ st. run (whole g.H.Host.given) first 0 (drop (length base) base) st)
    (running_as first all base base (sym c.as_slice-rest.ensures) (running_starts all base c.requires.shape)) c.requires.fits refl refl
    (λ w. run_starts (whole g.H.Host.given) first all base (state_of c.args.self.now w) c.as_slice-rest.ensures)

pub expression-instruction-requires : goal.expression-instruction-requires
expression-instruction-requires g t c =
    let base = c.args.self.now.values.store.stack in
    let stack = c.walk.self.values.store.stack in
    let needed = running_needs c.in-Some.next.now c.in-Some.more.now base stack (running_as (c.in-Some.next.now ∷ c.in-Some.more.now) c.walk.rest.now base stack c.in-Some.ensures.cases.0 c.walk.invariant.shape) in
    let fits = c.walk.invariant.fits in
    search rules

pub expression-returns-in_err-passed-clause-answer : goal.expression-returns-in_err-passed-clause-answer
expression-returns-in_err-passed-clause-answer g t c w told =
    let base = c.args.self.now.values.store.stack in
    let stack = c.walk.self.values.store.stack in
    let here = running_as (c.in-Some.next.now ∷ c.in-Some.more.now) c.walk.rest.now base stack c.in-Some.ensures.cases.0 c.walk.invariant.shape in
    then_stop _ (search rules)
    (c.walk.invariant.goes w told _ _ _
    (λ v e. runs_as (run_step (whole g.H.Host.given) c.in-Some.next.now c.in-Some.more.now c.walk.rest.now base stack (state_of c.walk.self v) c.in-Some.ensures.cases.0 here)
    (bind_stop _ (c.in_err-passed.ensures.answer v e))))

pub expression-returns-in_err-passed-clause-stack : goal.expression-returns-in_err-passed-clause-stack
expression-returns-in_err-passed-clause-stack g t c =
    let base = c.args.self.now.values.store.stack in
    let stack = c.walk.self.values.store.stack in
    stops_as (Stands c.in-Some.next.now stack) base (kept c.in-Some.next.now stack) c.instruction.new.self.values.store.stack c.in_err-passed.field-0.0 _ (search rules)
    (kept_keeps c.in-Some.next.now c.in-Some.more.now base stack (running_as (c.in-Some.next.now ∷ c.in-Some.more.now) c.walk.rest.now base stack c.in-Some.ensures.cases.0 c.walk.invariant.shape))
    c.in_err-passed.ensures.stack

pub expression-walk-preserved : goal.expression-walk-preserved
expression-walk-preserved g t c =
    let base = c.args.self.now.values.store.stack in
    let stack = c.walk.self.values.store.stack in
    let here = running_as (c.in-Some.next.now ∷ c.in-Some.more.now) c.walk.rest.now base stack c.in-Some.ensures.cases.0 c.walk.invariant.shape in
    record {
      quiet = c.in_ok-passed.ensures.cause ∙ c.walk.invariant.quiet;
      units_left = omega (arith, c.walk.invariant.units_left, c.in_ok-passed.ensures.units);
      shape = running_on c.in-Some.next.now c.in-Some.more.now c.behind-rest.result.now base stack c.instruction.new.self.values.store.stack _ here c.in_ok-passed.ensures.stack c.behind-rest.ensures;
      fits = c.in_ok-passed.ensures.fits;
      goes = λ w told r after end k.
          c.walk.invariant.goes w told _ _ _
          (λ v e. runs_as (run_step (whole g.H.Host.given) c.in-Some.next.now c.in-Some.more.now c.walk.rest.now base stack (state_of c.walk.self v) c.in-Some.ensures.cases.0 here)
          (bind_ok _ (c.in_ok-passed.ensures.answer v e)
          (λ p v2 e2 shown. runs_as (run_on (whole g.H.Host.given) c.in-Some.more.now c.behind-rest.result.now p _ base c.instruction.new.self.values.store.stack (state_of c.instruction.new.self v2) c.behind-rest.ensures shown) (k v2 e2))));
    }

pub expression-settled-requires : goal.expression-settled-requires
expression-settled-requires g t c =
    let one = running_ends c.walk.rest.now c.args.self.now.values.store.stack c.walk.self.values.store.stack c.in_default.ensures.cases c.walk.invariant.shape in
    omega (arith, one.count_is)

pub expression-returns-clause-answer : goal.expression-returns-clause-answer
expression-returns-clause-answer g t c w told =
    bind_ok _
    (c.walk.invariant.goes w told _ _ _
    (λ v e. runs_as (run_end (whole g.H.Host.given) c.walk.rest.now c.args.self.now.values.store.stack c.walk.self.values.store.stack (state_of c.walk.self v) c.in_default.ensures.cases c.walk.invariant.shape)
    (done_runs {t = tt} {new = c.walk.self} e refl refl)))
    (λ x v e shown. runs_as (ap (λ y. settled_value y (state_of c.walk.self v)) shown) (c.settled.ensures.answer (outer (g.O.Outside.told c.walk.out) (g.O.Outside.torn c.walk.out)) v e))

pub expression-returns-clause-stack : goal.expression-returns-clause-stack
expression-returns-clause-stack g t c =
    let base = c.args.self.now.values.store.stack in
    let stack = c.walk.self.values.store.stack in
    subst (λ b. PushesOne b c.settled.result c.settled.new.self.values.store.stack)
    (over-popped base stack (running_ends c.walk.rest.now base stack c.in_default.ensures.cases c.walk.invariant.shape)) c.settled.ensures.stack

pub expression-returns-clause-cause : goal.expression-returns-clause-cause
expression-returns-clause-cause g t c = calm_caused c.settled.result _ _ c.settled.ensures.calm c.walk.invariant.quiet

pub instruction-returns-in_err-operate-in-Operate-clause-answer : goal.instruction-returns-in_err-operate-in-Operate-clause-answer
instruction-returns-in_err-operate-in-Operate-clause-answer g t c w told =
    runs_as (ap (λ i. does (whole g.H.Host.given) i c.args.self.now.values.store.stack (state_of c.args.self.now w)) (sym c.in-Operate.is))
    (then_stop _ (search rules) (c.in_err-operate-in-Operate.ensures.answer w told))

pub instruction-returns-in_ok-operate-in-Operate-clause-answer : goal.instruction-returns-in_ok-operate-in-Operate-clause-answer
instruction-returns-in_ok-operate-in-Operate-clause-answer g t c w told =
    runs_as (ap (λ i. does (whole g.H.Host.given) i c.args.self.now.values.store.stack (state_of c.args.self.now w)) (sym c.in-Operate.is))
    (bind_ok _ (c.in_ok-operate-in-Operate.ensures.answer w told)
    (λ x v e shown. done_runs e refl (over-one (under _ c.args.self.now.values.store.stack) c.operate.new.self.values.store.stack x c.in_ok-operate-in-Operate.ensures.stack shown, refl)))

pub instruction-returns-in-SkipIf-clause-answer : goal.instruction-returns-in-SkipIf-clause-answer
instruction-returns-in-SkipIf-clause-answer g t c w told =
    runs_as (ap (λ i. does (whole g.H.Host.given) i c.args.self.now.values.store.stack (state_of c.args.self.now w)) (sym c.in-SkipIf.is))
    (c.jump.ensures.answer (outer (g.O.Outside.told c.args.out.now) (g.O.Outside.torn c.args.out.now)) w told)

pub instruction-returns-in-Skip-clause-answer : goal.instruction-returns-in-Skip-clause-answer
instruction-returns-in-Skip-clause-answer g t c w told =
    runs_as (ap (λ i. does (whole g.H.Host.given) i c.args.self.now.values.store.stack (state_of c.args.self.now w)) (sym c.in-Skip.is))
    (done_runs told refl (refl, refl))

pub instruction-returns-in-Forget-clause-answer : goal.instruction-returns-in-Forget-clause-answer
instruction-returns-in-Forget-clause-answer g t c w told =
    runs_as (ap (λ i. does (whole g.H.Host.given) i c.args.self.now.values.store.stack (state_of c.args.self.now w)) (sym c.in-Forget.is))
    (value_runs c.args.self.now told (values_same c.args.self.now c.pop.new.self (search rules)) (search rules, refl))

pub instruction-returns-in_err-operate-in-Operate-clause-stack : goal.instruction-returns-in_err-operate-in-Operate-clause-stack
instruction-returns-in_err-operate-in-Operate-clause-stack g t c =
    operate_stops c.args.instruction.now _ c.args.self.now.values.store.stack c.operate.new.self.values.store.stack c.in_err-operate-in-Operate.field-0.0 _ c.in-Operate.is (search rules) c.in_err-operate-in-Operate.ensures.stack

pub instruction-returns-in_ok-operate-in-Operate-clause-stack : goal.instruction-returns-in_ok-operate-in-Operate-clause-stack
instruction-returns-in_ok-operate-in-Operate-clause-stack g t c =
    let stack = c.args.self.now.values.store.stack in
    let R : Instruction → Type 0 = λ i. Leaves {T = ℕ} (Stands i stack) (kept i stack) (Ok 0) c.operate.new.self.values.store.stack in
    subst R (sym c.in-Operate.is) (c.in_ok-operate-in-Operate.ensures.stack, refl)

pub instruction-returns-in-SkipIf-clause-stack : goal.instruction-returns-in-SkipIf-clause-stack
instruction-returns-in-SkipIf-clause-stack g t c =
    let stack = c.args.self.now.values.store.stack in
    let R : Instruction → Type 0 = λ i. Leaves (Stands i stack) (kept i stack) c.jump.result c.jump.new.self.values.store.stack in
    subst R (sym c.in-SkipIf.is) c.jump.ensures.stack

pub instruction-returns-in-Skip-clause-stack : goal.instruction-returns-in-Skip-clause-stack
instruction-returns-in-Skip-clause-stack g t c =
    let stack = c.args.self.now.values.store.stack in
    let R : Instruction → Type 0 = λ i. Leaves {T = ℕ} (Stands i stack) (kept i stack) (Ok c.in-Skip.n) stack in
    subst R (sym c.in-Skip.is) (refl, refl)

pub instruction-returns-in-Forget-clause-stack : goal.instruction-returns-in-Forget-clause-stack
instruction-returns-in-Forget-clause-stack g t c =
    let stack = c.args.self.now.values.store.stack in
    let R : Instruction → Type 0 = λ i. Leaves {T = ℕ} (Stands i stack) (kept i stack) (Ok 0) c.pop.new.self.store.stack in
    subst R (sym c.in-Forget.is) (c.pop.ensures.popped, refl)

pub operate-returns-in-Literal-clause-stack : goal.operate-returns-in-Literal-clause-stack
operate-returns-in-Literal-clause-stack g t c =
    let stack = c.args.self.now.values.store.stack in
    let R : Operation → Type 0 = λ op. PushesOne (under (takes op) stack) c.push_text.result c.push_text.new.self.values.store.stack in
    subst R (sym c.in-Literal.is) (pushes_over stack c.push_text.result c.push_text.new.self.values.store.stack (pushes_one _ stack c.push_text.result c.push_text.new.self.values.store.stack c.push_text.ensures.stack))

pub operate-returns-in-Parts-clause-stack : goal.operate-returns-in-Parts-clause-stack
operate-returns-in-Parts-clause-stack g t c =
    let stack = c.args.self.now.values.store.stack in
    let R : Operation → Type 0 = λ op. PushesOne (under (takes op) stack) c.substitute.result c.substitute.new.self.values.store.stack in
    subst R (sym c.in-Parts.is) (pushes_over stack c.substitute.result c.substitute.new.self.values.store.stack c.substitute.ensures.stack)

pub operate-returns-in-Unary-clause-stack : goal.operate-returns-in-Unary-clause-stack
operate-returns-in-Unary-clause-stack g t c =
    let stack = c.args.self.now.values.store.stack in
    let R : Operation → Type 0 = λ op. PushesOne (under (takes op) stack) c.unary.result c.unary.new.self.values.store.stack in
    subst R (sym c.in-Unary.is) c.unary.ensures.stack

pub operate-returns-in-Number-clause-stack : goal.operate-returns-in-Number-clause-stack
operate-returns-in-Number-clause-stack g t c =
    let stack = c.args.self.now.values.store.stack in
    let R : Operation → Type 0 = λ op. PushesOne (under (takes op) stack) c.between.result c.between.new.self.values.store.stack in
    subst R (sym c.in-Number.is) c.between.ensures.stack

pub operate-returns-in-Words-clause-stack : goal.operate-returns-in-Words-clause-stack
operate-returns-in-Words-clause-stack g t c =
    let stack = c.args.self.now.values.store.stack in
    let R : Operation → Type 0 = λ op. PushesOne (under (takes op) stack) c.words_between.result c.words_between.new.self.values.store.stack in
    subst R (sym c.in-Words.is) c.words_between.ensures.stack

pub operate-returns-in-Truth-clause-stack : goal.operate-returns-in-Truth-clause-stack
operate-returns-in-Truth-clause-stack g t c =
    let stack = c.args.self.now.values.store.stack in
    let R : Operation → Type 0 = λ op. PushesOne (under (takes op) stack) c.top_truth.result c.top_truth.new.self.values.store.stack in
    subst R (sym c.in-Truth.is) c.top_truth.ensures.stack

pub operate-returns-in-Call-clause-stack : goal.operate-returns-in-Call-clause-stack
operate-returns-in-Call-clause-stack g t c =
    let stack = c.args.self.now.values.store.stack in
    let R : Operation → Type 0 = λ op. PushesOne (under (takes op) stack) c.apply.result c.apply.new.self.values.store.stack in
    subst R (sym c.in-Call.is) c.apply.ensures.stack

pub operate-returns-in-TooDeep-clause-stack : goal.operate-returns-in-TooDeep-clause-stack
operate-returns-in-TooDeep-clause-stack g t c =
    let stack = c.args.self.now.values.store.stack in
    let now = c.raise.new.self.values.store.stack in
    let R : Operation → Type 0 = λ op. PushesOne {T = Unit {0}} (under (takes op) stack) (Err c.raise.result) now in
    let over : PushesOne {T = Unit {0}} stack (Err c.raise.result) now = search rules in
    subst R (sym c.in-TooDeep.is) (pushes_over {T = Unit {0}} stack (Err c.raise.result) now over)

pub operate-returns-in-Literal-clause-answer : goal.operate-returns-in-Literal-clause-answer
operate-returns-in-Literal-clause-answer g t c w told =
    runs_as (ap (λ op. operated (whole g.H.Host.given) op c.args.self.now.values.store.stack (state_of c.args.self.now w)) (sym c.in-Literal.is))
    (runs_as (ap (λ x. done x (state_of c.args.self.now w)) c.bytes.ensures.text) (c.push_text.ensures.answer (outer (g.O.Outside.told c.args.out.now) (g.O.Outside.torn c.args.out.now)) w told))

pub operate-returns-in-Call-clause-answer : goal.operate-returns-in-Call-clause-answer
operate-returns-in-Call-clause-answer g t c w told =
    let n = c.in-Call.n in
    runs_as (ap (λ op. operated (whole g.H.Host.given) op c.args.self.now.values.store.stack (state_of c.args.self.now w)) (sym c.in-Call.is))
    (runs_as (ap (λ name. expression_call name (top n c.args.self.now.values.store.stack) (state_of c.args.self.now w)) c.bytes-in-Call.ensures.text)
    (c.apply.ensures.answer (outer (g.O.Outside.told c.args.out.now) (g.O.Outside.torn c.args.out.now)) w told))

pub operate-returns-in-Parts-clause-answer : goal.operate-returns-in-Parts-clause-answer
operate-returns-in-Parts-clause-answer g t c w told =
    runs_as (ap (λ op. operated (whole g.H.Host.given) op c.args.self.now.values.store.stack (state_of c.args.self.now w)) (sym c.in-Parts.is))
    (c.substitute.ensures.answer w told)

pub operate-returns-in-Unary-clause-answer : goal.operate-returns-in-Unary-clause-answer
operate-returns-in-Unary-clause-answer g t c w told =
    runs_as (ap (λ op. operated (whole g.H.Host.given) op c.args.self.now.values.store.stack (state_of c.args.self.now w)) (sym c.in-Unary.is))
    (c.unary.ensures.answer (outer (g.O.Outside.told c.args.out.now) (g.O.Outside.torn c.args.out.now)) w told)

pub operate-returns-in-Number-clause-answer : goal.operate-returns-in-Number-clause-answer
operate-returns-in-Number-clause-answer g t c w told =
    runs_as (ap (λ op. operated (whole g.H.Host.given) op c.args.self.now.values.store.stack (state_of c.args.self.now w)) (sym c.in-Number.is))
    (c.between.ensures.answer (outer (g.O.Outside.told c.args.out.now) (g.O.Outside.torn c.args.out.now)) w told)

pub operate-returns-in-Words-clause-answer : goal.operate-returns-in-Words-clause-answer
operate-returns-in-Words-clause-answer g t c w told =
    runs_as (ap (λ op. operated (whole g.H.Host.given) op c.args.self.now.values.store.stack (state_of c.args.self.now w)) (sym c.in-Words.is))
    (c.words_between.ensures.answer (outer (g.O.Outside.told c.args.out.now) (g.O.Outside.torn c.args.out.now)) w told)

pub operate-returns-in-Truth-clause-answer : goal.operate-returns-in-Truth-clause-answer
operate-returns-in-Truth-clause-answer g t c w told =
    runs_as (ap (λ op. operated (whole g.H.Host.given) op c.args.self.now.values.store.stack (state_of c.args.self.now w)) (sym c.in-Truth.is))
    (c.top_truth.ensures.answer (outer (g.O.Outside.told c.args.out.now) (g.O.Outside.torn c.args.out.now)) w told)

pub operate-returns-in-TooDeep-clause-answer : goal.operate-returns-in-TooDeep-clause-answer
operate-returns-in-TooDeep-clause-answer g t c w told =
    runs_as (ap (λ op. operated (whole g.H.Host.given) op c.args.self.now.values.store.stack (state_of c.args.self.now w)) (sym c.in-TooDeep.is))
    (raise_bare c.args.self.now message.TooManyNestedBrackets message.TooManyNestedBrackets NoCode NoCode told c.raise.ensures.same refl refl c.raise.ensures.raises)

pub body-returns-clause-answer : goal.body-returns-clause-answer
body-returns-clause-answer g t c w told =
    body_runs c.height-height.result c.script-ended.new.self (c.script-ended.ensures.answer w told) c.end_body.ensures.same c.end_body.ensures.turn c.end_body.ensures.stack

pub body-returns-clause-stack : goal.body-returns-clause-stack
body-returns-clause-stack g t c =
    body_leaves c.args.self.now.values.store.stack c.height-height.result c.script-ended.result c.end_body.result c.script-ended.new.self.values.store.stack c.end_body.new.self.values.store.stack c.height-height.ensures c.end_body.ensures.turn c.end_body.ensures.stack c.script-ended.ensures.stack

pub body-returns-clause-cause : goal.body-returns-clause-cause
body-returns-clause-cause g t c =
    body_caused (g.O.Outside.faults c.args.out.now) (g.O.Outside.faults c.script-ended.new.out) c.script-ended.result c.end_body.result c.end_body.ensures.turn c.script-ended.ensures.cause

pub between_turns-returns-clause-answer : goal.between_turns-returns-clause-answer
between_turns-returns-clause-answer g t c w told =
    between_runs c.height-height.result c.script-ended.new.self (c.script-ended.ensures.answer w told) c.end_between.ensures.same c.end_between.ensures.turn c.end_between.ensures.stack

pub between_turns-returns-clause-stack : goal.between_turns-returns-clause-stack
between_turns-returns-clause-stack g t c =
    between_leaves c.args.self.now.values.store.stack c.height-height.result c.script-ended.result c.end_between.result c.script-ended.new.self.values.store.stack c.end_between.new.self.values.store.stack c.height-height.ensures c.end_between.ensures.turn c.end_between.ensures.stack c.script-ended.ensures.stack

pub between_turns-returns-clause-cause : goal.between_turns-returns-clause-cause
between_turns-returns-clause-cause g t c =
    between_caused (g.O.Outside.faults c.args.out.now) (g.O.Outside.faults c.script-ended.new.out) c.script-ended.result c.end_between.result c.end_between.ensures.turn c.script-ended.ensures.cause

pub paid_body-returns-in_err-take_unit-clause-answer : goal.paid_body-returns-in_err-take_unit-clause-answer
paid_body-returns-in_err-take_unit-clause-answer g t c w told =
    then_stop _ (search rules) (c.in_err-take_unit.ensures.answer (outer (g.O.Outside.told c.args.out.now) (g.O.Outside.torn c.args.out.now)) w told)

pub paid_body-returns-in_err-ended-clause-answer : goal.paid_body-returns-in_err-ended-clause-answer
paid_body-returns-in_err-ended-clause-answer g t c w told =
    bind_ok _ (c.in_ok-take_unit.ensures.answer (outer (g.O.Outside.told c.args.out.now) (g.O.Outside.torn c.args.out.now)) w told)
    (λ u v e shown. then_stop _ (search rules) (c.in_err-ended.ensures.answer v e))

pub paid_body-returns-clause-answer : goal.paid_body-returns-clause-answer
paid_body-returns-clause-answer g t c w told =
    bind_ok _ (c.in_ok-take_unit.ensures.answer (outer (g.O.Outside.told c.args.out.now) (g.O.Outside.torn c.args.out.now)) w told)
    (λ u v e shown. bind_ok _ (c.in_ok-ended.ensures.answer v e)
    (λ turn v2 e2 told2. value_runs c.body.new.self e2 c.goes_on.ensures.same (c.goes_on.ensures.more ∙ more_is turn c.in_ok-ended.ended c.body.new.self.values.store.stack told2)))

pub turn-returns-in_err-test-clause-answer : goal.turn-returns-in_err-test-clause-answer
turn-returns-in_err-test-clause-answer g t c w told = then_stop _ (search rules) (c.in_err-test.ensures.answer w told)

pub turn-returns-then-not-branch-clause-answer : goal.turn-returns-then-not-branch-clause-answer
turn-returns-then-not-branch-clause-answer g t c w told =
    let ev = whole g.H.Host.given in
    let none : c.in_ok-test.field-0 ≡ false = search (rules, c.if-not-branch.true) in
    bind_ok _ (c.in_ok-test.ensures.answer w told)
    (λ more v e shown. runs_as (ap (λ b. if b then bind (paid_body ev c.args.body.now (state_of c.test.new.self v)) (λ on s2. if on then run_between ev c.args.next.now s2 else done false s2) else done false (state_of c.test.new.self v)) (sym none ∙ shown)) (done_runs e refl refl))

pub turn-returns-in_err-paid_body-clause-answer : goal.turn-returns-in_err-paid_body-clause-answer
turn-returns-in_err-paid_body-clause-answer g t c w told =
    let ev = whole g.H.Host.given in
    let one : c.in_ok-test.field-0 ≡ true = search (rules, c.if-not-branch.false) in
    bind_ok _ (c.in_ok-test.ensures.answer w told)
    (λ more v e shown. runs_as (ap (λ b. if b then bind (paid_body ev c.args.body.now (state_of c.test.new.self v)) (λ on s2. if on then run_between ev c.args.next.now s2 else done false s2) else done false (state_of c.test.new.self v)) (sym one ∙ shown))
    (then_stop _ (search rules) (c.in_err-paid_body.ensures.answer v e)))

pub turn-returns-then-not-branch-2-clause-answer : goal.turn-returns-then-not-branch-2-clause-answer
turn-returns-then-not-branch-2-clause-answer g t c w told =
    let ev = whole g.H.Host.given in
    let one : c.in_ok-test.field-0 ≡ true = search (rules, c.if-not-branch.false) in
    let none : c.in_ok-paid_body.field-0 ≡ false = search (rules, c.if-not-branch-2.true) in
    bind_ok _ (c.in_ok-test.ensures.answer w told)
    (λ more v e shown. runs_as (ap (λ b. if b then bind (paid_body ev c.args.body.now (state_of c.test.new.self v)) (λ on s2. if on then run_between ev c.args.next.now s2 else done false s2) else done false (state_of c.test.new.self v)) (sym one ∙ shown))
    (bind_ok _ (c.in_ok-paid_body.ensures.answer v e)
    (λ on v2 e2 shown2. runs_as (ap (λ b. if b then run_between ev c.args.next.now (state_of c.paid_body.new.self v2) else done false (state_of c.paid_body.new.self v2)) (sym none ∙ shown2)) (done_runs e2 refl refl))))

pub turn-returns-in-None-clause-answer : goal.turn-returns-in-None-clause-answer
turn-returns-in-None-clause-answer g t c w told =
    let ev = whole g.H.Host.given in
    let one : c.in_ok-test.field-0 ≡ true = search (rules, c.if-not-branch.false) in
    let on : c.in_ok-paid_body.field-0 ≡ true = search (rules, c.if-not-branch-2.false) in
    bind_ok _ (c.in_ok-test.ensures.answer w told)
    (λ more v e shown. runs_as (ap (λ b. if b then bind (paid_body ev c.args.body.now (state_of c.test.new.self v)) (λ on s2. if on then run_between ev c.args.next.now s2 else done false s2) else done false (state_of c.test.new.self v)) (sym one ∙ shown))
    (bind_ok _ (c.in_ok-paid_body.ensures.answer v e)
    (λ x v2 e2 shown2. runs_as (ap (λ b. if b then run_between ev c.args.next.now (state_of c.paid_body.new.self v2) else done false (state_of c.paid_body.new.self v2)) (sym on ∙ shown2))
    (runs_as (ap (λ n. run_between ev n (state_of c.paid_body.new.self v2)) (sym c.in-None.is)) (done_runs e2 refl refl)))))

pub turn-returns-in-Some-clause-answer : goal.turn-returns-in-Some-clause-answer
turn-returns-in-Some-clause-answer g t c w told =
    let ev = whole g.H.Host.given in
    let one : c.in_ok-test.field-0 ≡ true = search (rules, c.if-not-branch.false) in
    let on : c.in_ok-paid_body.field-0 ≡ true = search (rules, c.if-not-branch-2.false) in
    bind_ok _ (c.in_ok-test.ensures.answer w told)
    (λ more v e shown. runs_as (ap (λ b. if b then bind (paid_body ev c.args.body.now (state_of c.test.new.self v)) (λ on s2. if on then run_between ev c.args.next.now s2 else done false s2) else done false (state_of c.test.new.self v)) (sym one ∙ shown))
    (bind_ok _ (c.in_ok-paid_body.ensures.answer v e)
    (λ x v2 e2 shown2. runs_as (ap (λ b. if b then run_between ev c.args.next.now (state_of c.paid_body.new.self v2) else done false (state_of c.paid_body.new.self v2)) (sym on ∙ shown2))
    (runs_as (ap (λ n. run_between ev n (state_of c.paid_body.new.self v2)) (sym c.in-Some.is))
    (runs_as (ap (λ s. between_turns ev s (state_of c.paid_body.new.self v2)) c.deref.ensures) (c.between_turns.ensures.answer v2 e2))))))

pub turns-turns-init : goal.turns-turns-init
turns-turns-init g t c = starts (run_turn (whole g.H.Host.given) c.args.test.now c.args.next.now c.args.body.now) c.args.self.now (outer (g.O.Outside.told c.args.out.now) (g.O.Outside.torn c.args.out.now)) (g.O.Outside.faults c.args.out.now) c.requires.fits

pub turns-turns-preserved : goal.turns-turns-preserved
turns-turns-preserved g t c =
    goes_again (run_turn (whole g.H.Host.given) c.args.test.now c.args.next.now c.args.body.now) c.args.self.now (outer (g.O.Outside.told c.args.out.now) (g.O.Outside.torn c.args.out.now)) (g.O.Outside.faults c.args.out.now) c.in_ok-turn.field-0
    c.turns.invariant c.in_ok-turn.ensures.answer c.if-branch.true (c.in_ok-turn.ensures.fewer c.if-branch.true) c.in_ok-turn.ensures.stack c.in_ok-turn.ensures.cause c.in_ok-turn.ensures.fits

pub turns-returns-in_err-turn-clause-answer : goal.turns-returns-in_err-turn-clause-answer
turns-returns-in_err-turn-clause-answer g t c w told =
    answers_as (search rules) (stops_there (run_turn (whole g.H.Host.given) c.args.test.now c.args.next.now c.args.body.now) c.args.self.now (outer (g.O.Outside.told c.args.out.now) (g.O.Outside.torn c.args.out.now)) (g.O.Outside.faults c.args.out.now) c.turns.invariant c.in_err-turn.ensures.answer w told)

pub turns-returns-clause-answer : goal.turns-returns-clause-answer
turns-returns-clause-answer g t c =
    ends_there (run_turn (whole g.H.Host.given) c.args.test.now c.args.next.now c.args.body.now) c.args.self.now (outer (g.O.Outside.told c.args.out.now) (g.O.Outside.torn c.args.out.now)) (g.O.Outside.faults c.args.out.now) c.in_ok-turn.field-0 c.turns.invariant c.in_ok-turn.ensures.answer c.if-branch.false

pub repeated-returns-in_err-tested-clause-answer : goal.repeated-returns-in_err-tested-clause-answer
repeated-returns-in_err-tested-clause-answer g t c w told = then_stop _ (search rules) (c.in_err-tested.ensures.answer (outer (g.O.Outside.told c.args.out.now) (g.O.Outside.torn c.args.out.now)) w told)

pub repeated-returns-in_err-between-clause-answer : goal.repeated-returns-in_err-between-clause-answer
repeated-returns-in_err-between-clause-answer g t c w told =
    bind_ok _ (c.in_ok-tested.ensures.answer (outer (g.O.Outside.told c.args.out.now) (g.O.Outside.torn c.args.out.now)) w told) (λ tree v e shown. memory_runs (search rules) e refl)

pub repeated-returns-in_err-script-clause-answer : goal.repeated-returns-in_err-script-clause-answer
repeated-returns-in_err-script-clause-answer g t c w told =
    bind_ok _ (c.in_ok-tested.ensures.answer (outer (g.O.Outside.told c.args.out.now) (g.O.Outside.torn c.args.out.now)) w told) (λ tree v e shown. memory_runs (search rules) e refl)

pub repeated-returns-in_err-turns-clause-answer : goal.repeated-returns-in_err-turns-clause-answer
repeated-returns-in_err-turns-clause-answer g t c w told =
    let ev = whole g.H.Host.given in
    let stack = c.args.self.now.values.store.stack in
    let one = record c.parsed.new.self { values = c.script_or_none.new.self } in
    let mid = record c.parsed.new.self { values = c.script.new.self } in
    let same = values_then c.parsed.new.self mid c.script_or_none.new.self c.in_ok-between.ensures.same (values_same one c.script.new.self c.in_ok-script.ensures.same) in
    let between_is = between_kept stack c.parsed.new.self.values.store.stack c.args.next _ c.in_ok-tested.ensures.stack c.in_ok-between.ensures.trees in
    let script_is = c.deref-2.ensures ∙ c.in_ok-script.ensures.tree ∙ ap (λ s. commands (get_or s c.args.body [])) (c.in_ok-between.ensures.stack ∙ c.in_ok-tested.ensures.stack) in
    bind_ok _ (c.in_ok-tested.ensures.answer (outer (g.O.Outside.told c.args.out.now) (g.O.Outside.torn c.args.out.now)) w told)
    (λ tree v e shown. from_same c.parsed.new.self mid (λ st. turned ev (placed stack) c.args.next c.args.body tree st) same
    (runs_as (turned_is ev (placed stack) c.args.next c.args.body _ c.deref.result.now tree c.deref-2.result.now (state_of mid v) (c.deref.ensures ∙ shown) script_is between_is)
    (then_stop _ (search rules) (c.in_err-turns.ensures.answer v e))))

pub repeated-returns-in_err-push_text-clause-answer : goal.repeated-returns-in_err-push_text-clause-answer
repeated-returns-in_err-push_text-clause-answer g t c w told =
    let ev = whole g.H.Host.given in
    let stack = c.args.self.now.values.store.stack in
    let one = record c.parsed.new.self { values = c.script_or_none.new.self } in
    let mid = record c.parsed.new.self { values = c.script.new.self } in
    let same = values_then c.parsed.new.self mid c.script_or_none.new.self c.in_ok-between.ensures.same (values_same one c.script.new.self c.in_ok-script.ensures.same) in
    let between_is = between_kept stack c.parsed.new.self.values.store.stack c.args.next _ c.in_ok-tested.ensures.stack c.in_ok-between.ensures.trees in
    let script_is = c.deref-2.ensures ∙ c.in_ok-script.ensures.tree ∙ ap (λ s. commands (get_or s c.args.body [])) (c.in_ok-between.ensures.stack ∙ c.in_ok-tested.ensures.stack) in
    bind_ok _ (c.in_ok-tested.ensures.answer (outer (g.O.Outside.told c.args.out.now) (g.O.Outside.torn c.args.out.now)) w told)
    (λ tree v e shown. from_same c.parsed.new.self mid (λ st. turned ev (placed stack) c.args.next c.args.body tree st) same
    (runs_as (turned_is ev (placed stack) c.args.next c.args.body _ c.deref.result.now tree c.deref-2.result.now (state_of mid v) (c.deref.ensures ∙ shown) script_is between_is)
    (bind_ok _ (c.in_ok-turns.ensures.answer v e)
    (λ u v2 e2 shown2. memory_runs (search rules ∙ ap Err (push-memory (chars []) c.turns.new.self.values.store.stack c.in_err-push_text.field-0.0 c.push_text.new.self.values.store.stack c.in_err-push_text.ensures.stack)) e2 c.in_err-push_text.ensures.same.events))))

pub repeated-returns-clause-answer : goal.repeated-returns-clause-answer
repeated-returns-clause-answer g t c w told =
    let ev = whole g.H.Host.given in
    let stack = c.args.self.now.values.store.stack in
    let one = record c.parsed.new.self { values = c.script_or_none.new.self } in
    let mid = record c.parsed.new.self { values = c.script.new.self } in
    let same = values_then c.parsed.new.self mid c.script_or_none.new.self c.in_ok-between.ensures.same (values_same one c.script.new.self c.in_ok-script.ensures.same) in
    let between_is = between_kept stack c.parsed.new.self.values.store.stack c.args.next _ c.in_ok-tested.ensures.stack c.in_ok-between.ensures.trees in
    let script_is = c.deref-2.ensures ∙ c.in_ok-script.ensures.tree ∙ ap (λ s. commands (get_or s c.args.body [])) (c.in_ok-between.ensures.stack ∙ c.in_ok-tested.ensures.stack) in
    bind_ok _ (c.in_ok-tested.ensures.answer (outer (g.O.Outside.told c.args.out.now) (g.O.Outside.torn c.args.out.now)) w told)
    (λ tree v e shown. from_same c.parsed.new.self mid (λ st. turned ev (placed stack) c.args.next c.args.body tree st) same
    (runs_as (turned_is ev (placed stack) c.args.next c.args.body _ c.deref.result.now tree c.deref-2.result.now (state_of mid v) (c.deref.ensures ∙ shown) script_is between_is)
    (bind_ok _ (c.in_ok-turns.ensures.answer v e)
    (λ u v2 e2 shown2. value_runs c.turns.new.self e2 c.in_ok-push_text.ensures.same (last-pushed _ _ _ c.in_ok-push_text.ensures.stack ∙ chars-nil, refl)))))

pub started_loop-returns-in_err-script_at-clause-answer : goal.started_loop-returns-in_err-script_at-clause-answer
started_loop-returns-in_err-script_at-clause-answer g t c w told = then_stop {S = Unit {0}} _ {given = returned {A = Unit {0}}} (search rules) (bind_stop _ (c.in_err-script_at.ensures.answer w told))

pub started_loop-repeated-requires : goal.started_loop-repeated-requires
started_loop-repeated-requires g t c =
    let same = c.pop.ensures.popped ∙ over-popped c.args.self.now.values.store.stack c.script_at.new.self.values.store.stack c.in_ok-script_at.ensures.stack in
    let fits = c.in_ok-script_at.ensures.fits in
    search rules

pub started_loop-returns-clause-stack : goal.started_loop-returns-clause-stack
started_loop-returns-clause-stack g t c =
    let same = c.pop.ensures.popped ∙ over-popped c.args.self.now.values.store.stack c.script_at.new.self.values.store.stack c.in_ok-script_at.ensures.stack in
    subst (λ b. PushesOne b c.repeated.result c.repeated.new.self.values.store.stack) same c.repeated.ensures.stack

pub started_loop-returns-clause-answer : goal.started_loop-returns-clause-answer
started_loop-returns-clause-answer g t c w told =
    let mid = record c.script_at.new.self { values = c.pop.new.self } in
    let same = c.pop.ensures.popped ∙ over-popped c.args.self.now.values.store.stack c.script_at.new.self.values.store.stack c.in_ok-script_at.ensures.stack in
    bind_ok _ {given = returned {A = Unit {0}}}
    (bind_ok _ (c.in_ok-script_at.ensures.answer w told) (λ o v e shown. value_runs {t = tt} {new = mid} c.script_at.new.self e (values_same c.script_at.new.self c.pop.new.self c.pop.ensures.same) refl))
    (λ u v e shown. runs_as (ap (λ s. stepped_loop (whole g.H.Host.given) (get_or s c.args.test []) (get_or s c.args.next []) (get_or s c.args.body []) (state_of mid v)) same)
    (c.repeated.ensures.answer v e))

pub condition-returns-in_err-found-clause-answer : goal.condition-returns-in_err-found-clause-answer
condition-returns-in_err-found-clause-answer g t c w told =
    then_stop _ (search rules) (c.in_err-found.ensures.answer (outer (g.O.Outside.told c.args.out.now) (g.O.Outside.torn c.args.out.now)) w told)

pub condition-returns-clause-answer : goal.condition-returns-clause-answer
condition-returns-clause-answer g t c w told =
    bind_ok _ (c.in_ok-found.ensures.answer (outer (g.O.Outside.told c.args.out.now) (g.O.Outside.torn c.args.out.now)) w told)
    (λ tree v e shown. runs_as (test_same (whole g.H.Host.given) c.deref.result.now tree (state_of c.parsed.new.self v) (c.deref.ensures ∙ shown)) (c.test.ensures.answer v e))

pub each_turn-returns-in_err-take_unit-clause-answer : goal.each_turn-returns-in_err-take_unit-clause-answer
each_turn-returns-in_err-take_unit-clause-answer g t c w told =
    then_stop _ (search rules) (c.in_err-take_unit.ensures.answer (outer (g.O.Outside.told c.args.out.now) (g.O.Outside.torn c.args.out.now)) w told)

pub each_turn-assign_groups-requires : goal.each_turn-assign_groups-requires
each_turn-assign_groups-requires g t c =
    all_same c.args.self.now.values.store.stack c.take_unit.new.self.values.store.stack c.args.groups.now c.in_ok-take_unit.ensures.stack c.requires.groups

pub each_turn-returns-in_err-assign_groups-clause-answer : goal.each_turn-returns-in_err-assign_groups-clause-answer
each_turn-returns-in_err-assign_groups-clause-answer g t c w told =
    let here = outer (g.O.Outside.told c.args.out.now) (g.O.Outside.torn c.args.out.now) in
    bind_ok _ (c.in_ok-take_unit.ensures.answer here w told)
    (λ u v e shown. then_stop _ (search rules)
    (runs_as (ap (λ s. assign_groups c.args.turn (groups_at s c.args.groups.now) (state_of c.take_unit.new.self v)) c.in_ok-take_unit.ensures.stack) (c.in_err-assign_groups.ensures.answer here v e)))

pub each_turn-returns-clause-answer : goal.each_turn-returns-clause-answer
each_turn-returns-clause-answer g t c w told =
    let here = outer (g.O.Outside.told c.args.out.now) (g.O.Outside.torn c.args.out.now) in
    bind_ok _ (c.in_ok-take_unit.ensures.answer here w told)
    (λ u v e shown. bind_ok _
    (runs_as (ap (λ s. assign_groups c.args.turn (groups_at s c.args.groups.now) (state_of c.take_unit.new.self v)) c.in_ok-take_unit.ensures.stack) (c.in_ok-assign_groups.ensures.answer here v e))
    (λ a v2 e2 shown2. c.body.ensures.answer v2 e2))

pub each_turns-loop-turn-init : goal.each_turns-loop-turn-init
each_turns-loop-turn-init g t c =
    each_starts (each_turn (whole g.H.Host.given) c.args.script.now (groups_at c.args.self.now.values.store.stack c.args.groups.now)) c.args.keep c.args.count c.args.self.now (outer (g.O.Outside.told c.args.out.now) (g.O.Outside.torn c.args.out.now)) (g.O.Outside.faults c.args.out.now) c.requires.fits

pub each_turns-each_turn-requires : goal.each_turns-each_turn-requires
each_turns-each_turn-requires g t c =
    let base = c.args.self.now.values.store.stack in
    let now = c.loop-turn.self.values.store.stack in
    let groups = all_kept base now c.args.groups.now (keeps_results c.args.keep base c.loop-turn.invariant.results now c.loop-turn.invariant.walk.shape) c.requires.groups in
    let fits = c.loop-turn.invariant.walk.fits in
    search rules

pub each_turns-loop-turn-preserved : goal.each_turns-loop-turn-preserved
each_turns-loop-turn-preserved g t c =
    let base = c.args.self.now.values.store.stack in
    let now = c.loop-turn.self.values.store.stack in
    let groups = groups_kept base now c.args.groups.now (keeps_results c.args.keep base c.loop-turn.invariant.results now c.loop-turn.invariant.walk.shape) c.requires.groups in
    let some : c.loop-turn.turn < c.args.count = search rules in
    let on : c.follows.result ≡ true = search (rules, c.if-not-follows.false) in
    each_goes (each_turn (whole g.H.Host.given) c.args.script.now (groups_at base c.args.groups.now)) c.args.keep c.args.count c.args.self.now (outer (g.O.Outside.told c.args.out.now) (g.O.Outside.torn c.args.out.now)) (g.O.Outside.faults c.args.out.now) c.in_ok-ended.ended
    c.loop-turn.invariant some
    (λ w told. runs_as (ap (λ gs. each_turn (whole g.H.Host.given) c.args.script.now gs c.loop-turn.turn (state_of c.loop-turn.self w)) groups) (c.in_ok-ended.ensures.answer w told))
    c.in_ok-ended.ensures.units c.in_ok-ended.ensures.stack c.follows.ensures.same c.follows.ensures.stack (sym c.follows.ensures.more ∙ on) c.in_ok-ended.ensures.cause
    (ap (λ x. g.H.Host.fits x (g.O.Outside.told c.each_turn.new.out)) c.follows.ensures.same.own ∙ c.in_ok-ended.ensures.fits)

pub each_turns-returns-in_err-ended-clause-answer : goal.each_turns-returns-in_err-ended-clause-answer
each_turns-returns-in_err-ended-clause-answer g t c w told =
    let base = c.args.self.now.values.store.stack in
    let now = c.loop-turn.self.values.store.stack in
    let groups = groups_kept base now c.args.groups.now (keeps_results c.args.keep base c.loop-turn.invariant.results now c.loop-turn.invariant.walk.shape) c.requires.groups in
    let some : c.loop-turn.turn < c.args.count = search rules in
    answers_as (search rules) (each_stops (each_turn (whole g.H.Host.given) c.args.script.now (groups_at base c.args.groups.now)) c.args.keep c.args.count c.args.self.now (outer (g.O.Outside.told c.args.out.now) (g.O.Outside.torn c.args.out.now)) (g.O.Outside.faults c.args.out.now) c.loop-turn.invariant some
    (λ w2 told2. runs_as (ap (λ gs. each_turn (whole g.H.Host.given) c.args.script.now gs c.loop-turn.turn (state_of c.loop-turn.self w2)) groups) (c.in_err-ended.ensures.answer w2 told2)) w told)

pub each_turns-returns-then-not-follows-clause-answer : goal.each_turns-returns-then-not-follows-clause-answer
each_turns-returns-then-not-follows-clause-answer g t c =
    let base = c.args.self.now.values.store.stack in
    let now = c.loop-turn.self.values.store.stack in
    let groups = groups_kept base now c.args.groups.now (keeps_results c.args.keep base c.loop-turn.invariant.results now c.loop-turn.invariant.walk.shape) c.requires.groups in
    let some : c.loop-turn.turn < c.args.count = search rules in
    let off : c.follows.result ≡ false = search (rules, c.if-not-follows.true) in
    each_breaks (each_turn (whole g.H.Host.given) c.args.script.now (groups_at base c.args.groups.now)) c.args.keep c.args.count c.args.self.now (outer (g.O.Outside.told c.args.out.now) (g.O.Outside.torn c.args.out.now)) (g.O.Outside.faults c.args.out.now) c.in_ok-ended.ended
    c.loop-turn.invariant some
    (λ w told. runs_as (ap (λ gs. each_turn (whole g.H.Host.given) c.args.script.now gs c.loop-turn.turn (state_of c.loop-turn.self w)) groups) (c.in_ok-ended.ensures.answer w told))
    c.in_ok-ended.ensures.stack c.follows.ensures.same c.follows.ensures.stack (sym c.follows.ensures.more ∙ off)

pub each_turns-returns-clause-answer : goal.each_turns-returns-clause-answer
each_turns-returns-clause-answer g t c =
    let ended : c.args.count ≤ c.loop-turn.turn = search rules in
    each_ends (each_turn (whole g.H.Host.given) c.args.script.now (groups_at c.args.self.now.values.store.stack c.args.groups.now)) c.args.keep c.args.count c.args.self.now (outer (g.O.Outside.told c.args.out.now) (g.O.Outside.torn c.args.out.now)) (g.O.Outside.faults c.args.out.now) c.loop-turn.invariant ended

pub each_turns-returns-in_err-ended-clause-stack : goal.each_turns-returns-in_err-ended-clause-stack
each_turns-returns-in_err-ended-clause-stack g t c =
    let base = c.args.self.now.values.store.stack in
    let now = c.loop-turn.self.values.store.stack in
    turn_stops base now _ (search rules) (keeps_results c.args.keep base c.loop-turn.invariant.results now c.loop-turn.invariant.walk.shape) c.in_err-ended.ensures.stack

pub each_of-returns-in_err-script-clause-answer : goal.each_of-returns-in_err-script-clause-answer
each_of-returns-in_err-script-clause-answer g t c w told =
    memory_runs (search rules) told refl

pub each_of-turn_count-count-requires : goal.each_of-turn_count-count-requires
each_of-turn_count-count-requires g t c =
    all_same c.args.self.now.values.store.stack c.script.new.self.store.stack c.args.groups.now c.in_ok-script.ensures.stack c.requires.groups

pub each_of-each_turns-requires : goal.each_of-each_turns-requires
each_of-each_turns-requires g t c =
    let groups = all_same c.args.self.now.values.store.stack c.script.new.self.store.stack c.args.groups.now c.in_ok-script.ensures.stack c.requires.groups in
    let fits = c.requires.fits in
    search rules

pub each_of-returns-in_err-each_turns-clause-answer : goal.each_of-returns-in_err-each_turns-clause-answer
each_of-returns-in_err-each_turns-clause-answer g t c w told =
    let mid = record c.args.self.now { values = c.script.new.self } in
    let body = text_at c.args.self.now.values.store (Stack c.args.body) in
    let groups = groups_at c.args.self.now.values.store.stack c.args.groups.now in
    let known =
    turns_known (whole g.H.Host.given) c.deref.result.now (commands body) (groups_at c.script.new.self.store.stack c.args.groups.now) c.turn_count-count.result (state_of mid w) (c.deref.ensures ∙ c.in_ok-script.ensures.tree) c.turn_count-count.ensures
    ∙ ap (λ gs. each_turns (each_turn (whole g.H.Host.given) (commands body) gs) (turn_count gs) 0 [] (state_of mid w)) (ap (λ s. groups_at s c.args.groups.now) c.in_ok-script.ensures.stack) in
    from_same c.args.self.now mid (each_of (result_of c.args.keep) (whole g.H.Host.given) body groups) (values_same c.args.self.now c.script.new.self c.in_ok-script.ensures.same)
    (then_stop _ (search rules) (runs_as known (c.in_err-each_turns.ensures.answer w told)))

pub each_of-returns-in_err-push_list-clause-answer : goal.each_of-returns-in_err-push_list-clause-answer
each_of-returns-in_err-push_list-clause-answer g t c w told =
    let mid = record c.args.self.now { values = c.script.new.self } in
    let body = text_at c.args.self.now.values.store (Stack c.args.body) in
    let groups = groups_at c.args.self.now.values.store.stack c.args.groups.now in
    let known =
    turns_known (whole g.H.Host.given) c.deref.result.now (commands body) (groups_at c.script.new.self.store.stack c.args.groups.now) c.turn_count-count.result (state_of mid w) (c.deref.ensures ∙ c.in_ok-script.ensures.tree) c.turn_count-count.ensures
    ∙ ap (λ gs. each_turns (each_turn (whole g.H.Host.given) (commands body) gs) (turn_count gs) 0 [] (state_of mid w)) (ap (λ s. groups_at s c.args.groups.now) c.in_ok-script.ensures.stack) in
    from_same c.args.self.now mid (each_of (result_of c.args.keep) (whole g.H.Host.given) body groups) (values_same c.args.self.now c.script.new.self c.in_ok-script.ensures.same)
    (bind_ok _ (runs_as known (c.in_ok-each_turns.ensures.answer w told))
    (λ rs v e shown. memory_runs (search rules) e refl))

pub each_of-returns-clause-answer : goal.each_of-returns-clause-answer
each_of-returns-clause-answer g t c w told =
    let mid = record c.args.self.now { values = c.script.new.self } in
    let body = text_at c.args.self.now.values.store (Stack c.args.body) in
    let groups = groups_at c.args.self.now.values.store.stack c.args.groups.now in
    let known =
    turns_known (whole g.H.Host.given) c.deref.result.now (commands body) (groups_at c.script.new.self.store.stack c.args.groups.now) c.turn_count-count.result (state_of mid w) (c.deref.ensures ∙ c.in_ok-script.ensures.tree) c.turn_count-count.ensures
    ∙ ap (λ gs. each_turns (each_turn (whole g.H.Host.given) (commands body) gs) (turn_count gs) 0 [] (state_of mid w)) (ap (λ s. groups_at s c.args.groups.now) c.in_ok-script.ensures.stack) in
    let base = c.script.new.self.store.stack in
    let now = c.each_turns.new.self.values.store.stack in
    let count : c.height.result - c.height-height.result ≡ length now - length base = omega (arith, ap length c.in_ok-script.ensures.stack, c.height.ensures, c.height-height.ensures) in
    from_same c.args.self.now mid (each_of (result_of c.args.keep) (whole g.H.Host.given) body groups) (values_same c.args.self.now c.script.new.self c.in_ok-script.ensures.same)
    (bind_ok _ (runs_as known (c.in_ok-each_turns.ensures.answer w told))
    (λ rs v e shown. value_runs {a = plain (result_of c.args.keep rs)} c.each_turns.new.self e (values_same c.each_turns.new.self c.push_list.new.self c.in_ok-push_list.ensures.same)
    (result_is c.args.keep base rs now c.push_list.new.self.store.stack (c.height.result - c.height-height.result) shown count c.in_ok-push_list.ensures.pushed, refl)))

-- ---- commands and what they want

pub call-returns-in_err-push_text-clause-answer : goal.call-returns-in_err-push_text-clause-answer
call-returns-in_err-push_text-clause-answer g t c w told =
    memory_runs (search rules ∙ ap Err (push-memory (chars []) c.args.self.now.values.store.stack c.in_err-push_text.field-0.0 c.push_text.new.self.values.store.stack c.in_err-push_text.ensures.stack)) told c.in_err-push_text.ensures.same.events

pub call-returns-then-n-eq0-clause-answer : goal.call-returns-then-n-eq0-clause-answer
call-returns-then-n-eq0-clause-answer g t c w told =
    let empty = last-pushed _ _ _ c.in_ok-push_text.ensures.stack ∙ chars-nil in
    runs_as (call-empty g.H.Host.given (whole g.H.Host.given) c.args.n c.args.self.now.values.store.stack (state_of c.args.self.now w) c.if-n-eq0.true)
    (value_runs c.args.self.now told c.in_ok-push_text.ensures.same (empty, refl))

pub call-returns-in_err-plan-clause-answer : goal.call-returns-in_err-plan-clause-answer
call-returns-in_err-plan-clause-answer g t c w told =
    runs_as (call-some g.H.Host.given (whole g.H.Host.given) c.args.n c.args.self.now.values.store.stack (state_of c.args.self.now w) (search (rules, c.if-n-eq0.false)) c.requires.words)
    (then_stop _ (search rules) (steady_runs (g.H.Host.given.plan (top c.args.n c.args.self.now.values.store.stack)) c.in_err-plan.ensures.units (c.in_err-plan.ensures.answer w told)))

pub call-returns-clause-answer : goal.call-returns-clause-answer
call-returns-clause-answer g t c w told =
    runs_as (call-some g.H.Host.given (whole g.H.Host.given) c.args.n c.args.self.now.values.store.stack (state_of c.args.self.now w) (search (rules, c.if-n-eq0.false)) c.requires.words)
    (bind_ok _ (steady_runs (g.H.Host.given.plan (top c.args.n c.args.self.now.values.store.stack)) c.in_ok-plan.ensures.units (c.in_ok-plan.ensures.answer w told))
    (λ p v e shown. runs_as (ap (λ x. perform 3 g.H.Host.given (whole g.H.Host.given) x (state_of c.plan.new.machine v)) (sym shown)) (c.perform.ensures.answer v e)))

pub around-returns-then-left-eq0-clause-answer : goal.around-returns-then-left-eq0-clause-answer
around-returns-then-left-eq0-clause-answer g t c w told =
    runs_as (around-end c.args.left g.H.Host.given (whole g.H.Host.given) (inner_of c.args.self.now.values.store.stack c.args.inner) c.args.behind (state_of c.args.self.now w) c.if-left-eq0.true)
    (budget_runs told refl)

pub around-returns-in_err-ended-clause-answer : goal.around-returns-in_err-ended-clause-answer
around-returns-in_err-ended-clause-answer g t c w told =
    runs_as (around-step c.args.left g.H.Host.given (whole g.H.Host.given) (inner_of c.args.self.now.values.store.stack c.args.inner) c.args.behind (state_of c.args.self.now w) (search (rules, c.if-left-eq0.false)))
    (then_stop _ (search rules) (concluding_runs c.in_err-ended.ensures (c.run_inner.ensures.answer w told)))

pub around-returns-in_err-plan-clause-answer : goal.around-returns-in_err-plan-clause-answer
around-returns-in_err-plan-clause-answer g t c w told =
    runs_as (around-step c.args.left g.H.Host.given (whole g.H.Host.given) (inner_of c.args.self.now.values.store.stack c.args.inner) c.args.behind (state_of c.args.self.now w) (search (rules, c.if-left-eq0.false)))
    (bind_ok _ (concluding_runs c.in_ok-ended.ensures (c.run_inner.ensures.answer w told))
    (λ e v told2 shown. runs_as (ap (λ x. bind (steady (g.H.Host.given.finish c.args.behind x) (state_of c.run_inner.new.self v)) (λ p s2. perform (c.args.left - 1) g.H.Host.given (whole g.H.Host.given) p s2)) shown)
    (then_stop _ (search rules) (steady_runs (g.H.Host.given.finish c.args.behind (concluded c.in_ok-ended.ended (last_of c.run_inner.new.self.values.store.stack))) c.in_err-plan.ensures.units (c.in_err-plan.ensures.answer v told2)))))

pub around-returns-clause-answer : goal.around-returns-clause-answer
around-returns-clause-answer g t c w told =
    runs_as (around-step c.args.left g.H.Host.given (whole g.H.Host.given) (inner_of c.args.self.now.values.store.stack c.args.inner) c.args.behind (state_of c.args.self.now w) (search (rules, c.if-left-eq0.false)))
    (bind_ok _ (concluding_runs c.in_ok-ended.ensures (c.run_inner.ensures.answer w told))
    (λ e v told2 shown. runs_as (ap (λ x. bind (steady (g.H.Host.given.finish c.args.behind x) (state_of c.run_inner.new.self v)) (λ p s2. perform (c.args.left - 1) g.H.Host.given (whole g.H.Host.given) p s2)) shown)
    (bind_ok _ (steady_runs (g.H.Host.given.finish c.args.behind (concluded c.in_ok-ended.ended (last_of c.run_inner.new.self.values.store.stack))) c.in_ok-plan.ensures.units (c.in_ok-plan.ensures.answer v told2))
    (λ p v3 told3 shown3. runs_as (ap (λ x. perform (c.args.left - 1) g.H.Host.given (whole g.H.Host.given) x (state_of c.finish.new.machine v3)) (sym shown3)) (c.perform.ensures.answer v3 told3)))))

pub perform-returns-in-Finished-clause-answer : goal.perform-returns-in-Finished-clause-answer
perform-returns-in-Finished-clause-answer g t c w told =
    runs_as (ap (λ p. perform c.args.left g.H.Host.given (whole g.H.Host.given) (wanted_of p c.args.self.now.values.store.stack) (state_of c.args.self.now w)) (sym c.in-Finished.is))
    (done_runs told refl (refl, refl))

pub perform-returns-in-Run-clause-answer : goal.perform-returns-in-Run-clause-answer
perform-returns-in-Run-clause-answer g t c w told =
    runs_as (ap (λ p. perform c.args.left g.H.Host.given (whole g.H.Host.given) (wanted_of p c.args.self.now.values.store.stack) (state_of c.args.self.now w)) (sym c.in-Run.is))
    (c.around.ensures.answer w told)

pub perform-returns-in-Called-clause-answer : goal.perform-returns-in-Called-clause-answer
perform-returns-in-Called-clause-answer g t c w told =
    runs_as (ap (λ p. perform c.args.left g.H.Host.given (whole g.H.Host.given) (wanted_of p c.args.self.now.values.store.stack) (state_of c.args.self.now w)) (sym c.in-Called.is))
    (c.around-in-Called.ensures.answer w told)

pub perform-returns-in-AtLevel-clause-answer : goal.perform-returns-in-AtLevel-clause-answer
perform-returns-in-AtLevel-clause-answer g t c w told =
    runs_as (ap (λ p. perform c.args.left g.H.Host.given (whole g.H.Host.given) (wanted_of p c.args.self.now.values.store.stack) (state_of c.args.self.now w)) (sym c.in-AtLevel.is))
    (c.around-in-AtLevel.ensures.answer w told)

pub perform-returns-in-Value-clause-answer : goal.perform-returns-in-Value-clause-answer
perform-returns-in-Value-clause-answer g t c w told =
    runs_as (ap (λ p. perform c.args.left g.H.Host.given (whole g.H.Host.given) (wanted_of p c.args.self.now.values.store.stack) (state_of c.args.self.now w)) (sym c.in-Value.is))
    (c.value_at.ensures.answer w told)

pub perform-returns-in-Choice-clause-answer : goal.perform-returns-in-Choice-clause-answer
perform-returns-in-Choice-clause-answer g t c w told =
    runs_as (ap (λ p. perform c.args.left g.H.Host.given (whole g.H.Host.given) (wanted_of p c.args.self.now.values.store.stack) (state_of c.args.self.now w)) (sym c.in-Choice.is))
    (runs_as (ap (λ bs. choose (whole g.H.Host.given) (alternatives_of c.args.self.now.values.store.stack bs) (lead_of c.args.self.now.values.store.stack c.in-Choice.branches.last) (state_of c.args.self.now w)) c.as_slice.ensures.value)
    (c.run_branches.ensures.answer w told))

pub perform-returns-in-Tested-clause-answer : goal.perform-returns-in-Tested-clause-answer
perform-returns-in-Tested-clause-answer g t c w told =
    runs_as (ap (λ p. perform c.args.left g.H.Host.given (whole g.H.Host.given) (wanted_of p c.args.self.now.values.store.stack) (state_of c.args.self.now w)) (sym c.in-Tested.is))
    (c.repeated.ensures.answer w told)

pub perform-returns-in-Started-clause-answer : goal.perform-returns-in-Started-clause-answer
perform-returns-in-Started-clause-answer g t c w told =
    runs_as (ap (λ p. perform c.args.left g.H.Host.given (whole g.H.Host.given) (wanted_of p c.args.self.now.values.store.stack) (state_of c.args.self.now w)) (sym c.in-Started.is))
    (c.started_loop.ensures.answer w told)

pub perform-returns-in-Each-clause-answer : goal.perform-returns-in-Each-clause-answer
perform-returns-in-Each-clause-answer g t c w told =
    runs_as (ap (λ p. perform c.args.left g.H.Host.given (whole g.H.Host.given) (wanted_of p c.args.self.now.values.store.stack) (state_of c.args.self.now w)) (sym c.in-Each.is))
    (runs_as (ap (λ gs. each_of (result_of c.in-Each.keep) (whole g.H.Host.given) (placed c.args.self.now.values.store.stack c.in-Each.body) (groups_at c.args.self.now.values.store.stack gs) (state_of c.args.self.now w)) c.all.ensures)
    (c.each_of.ensures.answer w told))

pub around-perform-requires : goal.around-perform-requires
around-perform-requires g t c =
    let first = c.args.self.now.values.store.stack in
    let mid = c.run_inner.new.self.values.store.stack in
    let last = c.finish.new.machine.values.store.stack in
    let above = ended_above first mid c.run_inner.result c.caught.result c.in_ok-ended.ended c.caught.ensures (search rules) c.run_inner.ensures.stack in
    let low = under_length first mid c.args.base c.requires.base above in
    let keeps = plan_keeps (under 1 mid) last c.in_ok-plan.plan c.in_ok-plan.ensures.stack in
    let base : c.args.base ≤ length last = omega (arith, low, keeps.some) in
    let over : PlanOver (take c.args.base last) c.in_ok-plan.plan last = plan_lower (under 1 mid) last c.args.base c.in_ok-plan.plan low c.in_ok-plan.ensures.stack in
    let fits = c.in_ok-plan.ensures.fits in
    search rules

pub around-returns-in_err-plan-clause-stack : goal.around-returns-in_err-plan-clause-stack
around-returns-in_err-plan-clause-stack g t c =
    let first = c.args.self.now.values.store.stack in
    let mid = c.run_inner.new.self.values.store.stack in
    let above = ended_above first mid c.run_inner.result c.caught.result c.in_ok-ended.ended c.caught.ensures (search rules) c.run_inner.ensures.stack in
    stopped_lowest {S = Plan g.row.H-Behind.Denot} (PlanOver (under 1 mid)) first mid c.finish.new.machine.values.store.stack c.args.base c.in_err-plan.field-0.0 _ (search rules) c.requires.base above c.in_err-plan.ensures.stack

pub around-returns-clause-stack : goal.around-returns-clause-stack
around-returns-clause-stack g t c =
    let first = c.args.self.now.values.store.stack in
    let mid = c.run_inner.new.self.values.store.stack in
    let last = c.finish.new.machine.values.store.stack in
    let above = ended_above first mid c.run_inner.result c.caught.result c.in_ok-ended.ended c.caught.ensures (search rules) c.run_inner.ensures.stack in
    let keeps = plan_keeps (under 1 mid) last c.in_ok-plan.plan c.in_ok-plan.ensures.stack in
    subst (λ b. PushesResult b c.perform.result c.perform.new.self.values.store.stack) (lowest_kept first mid last c.args.base c.requires.base above keeps) c.perform.ensures.stack

pub value_at-returns-in_err-found-clause-answer : goal.value_at-returns-in_err-found-clause-answer
value_at-returns-in_err-found-clause-answer g t c w told =
    then_stop {S = Unit {0}} _ {given = on_top} (search rules) (bind_stop _ (c.in_err-found.ensures.answer (outer (g.O.Outside.told c.args.out.now) (g.O.Outside.torn c.args.out.now)) w told))

pub value_at-returns-in_err-expression-clause-answer : goal.value_at-returns-in_err-expression-clause-answer
value_at-returns-in_err-expression-clause-answer g t c w told =
    then_stop _ (search rules)
    (bind_ok _ (c.in_ok-found.ensures.answer (outer (g.O.Outside.told c.args.out.now) (g.O.Outside.torn c.args.out.now)) w told)
    (λ tree v e shown. runs_as (result_same (whole g.H.Host.given) c.deref.result.now tree (state_of c.parsed.new.self v) (c.deref.ensures ∙ shown)) (c.in_err-expression.ensures.answer v e)))

pub value_at-returns-clause-answer : goal.value_at-returns-clause-answer
value_at-returns-clause-answer g t c w told =
    bind_ok _
    (bind_ok _ (c.in_ok-found.ensures.answer (outer (g.O.Outside.told c.args.out.now) (g.O.Outside.torn c.args.out.now)) w told)
    (λ tree v e shown. runs_as (result_same (whole g.H.Host.given) c.deref.result.now tree (state_of c.parsed.new.self v) (c.deref.ensures ∙ shown)) (c.in_ok-expression.ensures.answer v e)))
    (λ x v e shown. done_runs e refl (shown, refl))

pub lead-returns-in-Body-clause-answer : goal.lead-returns-in-Body-clause-answer
lead-returns-in-Body-clause-answer g t c w told =
    runs_as (ap (λ x. lead (whole g.H.Host.given) (lead_of c.args.self.now.values.store.stack x) (state_of c.args.self.now w)) (sym c.in-Body.is)) (c.script_at.ensures.answer w told)

pub lead-returns-in-Refused-clause-answer : goal.lead-returns-in-Refused-clause-answer
lead-returns-in-Refused-clause-answer g t c w told =
    runs_as (ap (λ x. lead (whole g.H.Host.given) (lead_of c.args.self.now.values.store.stack x) (state_of c.args.self.now w)) (sym c.in-Refused.is))
    (raise_first c.args.self.now c.in-Refused.kind c.in-Refused.kind (placed_or_none c.args.self.now.values.store.stack c.in-Refused.first) NoCode NoCode told c.refuse_lead.ensures.same refl refl c.refuse_lead.ensures.raises)

pub lead-returns-in_err-push_text-in-Nothing-clause-answer : goal.lead-returns-in_err-push_text-in-Nothing-clause-answer
lead-returns-in_err-push_text-in-Nothing-clause-answer g t c w told =
    memory_runs (search rules ∙ ap Err (push-memory (chars []) c.args.self.now.values.store.stack c.in_err-push_text-in-Nothing.field-0.0 c.push_text.new.self.values.store.stack c.in_err-push_text-in-Nothing.ensures.stack)) told c.in_err-push_text-in-Nothing.ensures.same.events

pub lead-returns-in_ok-push_text-in-Nothing-clause-answer : goal.lead-returns-in_ok-push_text-in-Nothing-clause-answer
lead-returns-in_ok-push_text-in-Nothing-clause-answer g t c w told =
    runs_as (ap (λ x. lead (whole g.H.Host.given) (lead_of c.args.self.now.values.store.stack x) (state_of c.args.self.now w)) (sym c.in-Nothing.is))
    (value_runs c.args.self.now told c.in_ok-push_text-in-Nothing.ensures.same (last-pushed _ _ _ c.in_ok-push_text-in-Nothing.ensures.stack ∙ chars-nil, refl))

pub run_branches-returns-in_err-condition-clause-answer : goal.run_branches-returns-in_err-condition-clause-answer
run_branches-returns-in_err-condition-clause-answer g t c w told =
    let stack = c.args.self.now.values.store.stack in
    c.loop-i.invariant.goes w told _ _ _
    (λ v e. runs_as (choose-step (whole g.H.Host.given) stack c.args.branches.now (lead_of stack c.args.last) c.loop-i.i c.branch_at-branch.result (state_of c.loop-i.self v) (search rules) c.branch_at-branch.ensures)
    (then_stop _ (search rules)
    (runs_as (ap (λ s. condition (whole g.H.Host.given) (placed s c.branch_at-branch.result.test) (state_of c.loop-i.self v)) c.loop-i.invariant.shape) (c.in_err-condition.ensures.answer v e))))

pub run_branches-returns-then-branch-clause-answer : goal.run_branches-returns-then-branch-clause-answer
run_branches-returns-then-branch-clause-answer g t c w told =
    let stack = c.args.self.now.values.store.stack in
    let item = c.branch_at-branch.result in
    let rest = drop (c.loop-i.i + 1) (alternatives_of stack c.args.branches.now) in
    c.loop-i.invariant.goes w told _ _ _
    (λ v e. runs_as (choose-step (whole g.H.Host.given) stack c.args.branches.now (lead_of stack c.args.last) c.loop-i.i item (state_of c.loop-i.self v) (search rules) c.branch_at-branch.ensures)
    (bind_ok _
    (runs_as (ap (λ s. condition (whole g.H.Host.given) (placed s item.test) (state_of c.loop-i.self v)) c.loop-i.invariant.shape) (c.in_ok-condition.ensures.answer v e))
    (λ b v2 e2 shown. runs_as
    (ap (λ x. if x then lead (whole g.H.Host.given) (lead_of stack item.way) (state_of c.condition.new.self v2) else choose (whole g.H.Host.given) rest (lead_of stack c.args.last) (state_of c.condition.new.self v2)) (sym c.if-branch.true ∙ shown))
    (runs_as (ap (λ s. lead (whole g.H.Host.given) (lead_of s item.way) (state_of c.condition.new.self v2)) (c.in_ok-condition.ensures.stack ∙ c.loop-i.invariant.shape)) (c.lead.ensures.answer v2 e2)))))

pub run_branches-loop-i-preserved : goal.run_branches-loop-i-preserved
run_branches-loop-i-preserved g t c =
    let stack = c.args.self.now.values.store.stack in
    let item = c.branch_at-branch.result in
    let rest = drop (c.loop-i.i + 1) (alternatives_of stack c.args.branches.now) in
    record {
      quiet = c.in_ok-condition.ensures.cause ∙ c.loop-i.invariant.quiet;
      units_left = omega (arith, c.loop-i.invariant.units_left, c.in_ok-condition.ensures.units);
      shape = c.in_ok-condition.ensures.stack ∙ c.loop-i.invariant.shape;
      fits = c.in_ok-condition.ensures.fits;
      goes = λ w told r after end k.
          c.loop-i.invariant.goes w told _ _ _
          (λ v e. runs_as (choose-step (whole g.H.Host.given) stack c.args.branches.now (lead_of stack c.args.last) c.loop-i.i item (state_of c.loop-i.self v) (search rules) c.branch_at-branch.ensures)
          (bind_ok _
          (runs_as (ap (λ s. condition (whole g.H.Host.given) (placed s item.test) (state_of c.loop-i.self v)) c.loop-i.invariant.shape) (c.in_ok-condition.ensures.answer v e))
          (λ b v2 e2 shown. runs_as
          (ap (λ x. if x then lead (whole g.H.Host.given) (lead_of stack item.way) (state_of c.condition.new.self v2) else choose (whole g.H.Host.given) rest (lead_of stack c.args.last) (state_of c.condition.new.self v2)) (sym c.if-branch.false ∙ shown))
          (k v2 e2))));
    }

pub run_branches-returns-clause-answer : goal.run_branches-returns-clause-answer
run_branches-returns-clause-answer g t c w told =
    let stack = c.args.self.now.values.store.stack in
    c.loop-i.invariant.goes w told _ _ _
    (λ v e. runs_as (choose-end (whole g.H.Host.given) stack c.args.branches.now (lead_of stack c.args.last) c.loop-i.i (state_of c.loop-i.self v) (search rules))
    (runs_as (ap (λ s. lead (whole g.H.Host.given) (lead_of s c.args.last) (state_of c.loop-i.self v)) c.loop-i.invariant.shape) (c.lead-2.ensures.answer v e)))

-- ---- what runs in a frame

pub run_inner-returns-in-Script-clause-answer : goal.run_inner-returns-in-Script-clause-answer
run_inner-returns-in-Script-clause-answer g t c w told =
    runs_as (ap (λ i. inner (whole g.H.Host.given) (inner_of c.args.self.now.values.store.stack i) (state_of c.args.self.now w)) (sym c.in-Script.is))
    (c.script_at.ensures.answer w told)

pub run_inner-returns-in-Body-clause-answer : goal.run_inner-returns-in-Body-clause-answer
run_inner-returns-in-Body-clause-answer g t c w told =
    let stack = c.args.self.now.values.store.stack in
    runs_as (ap (λ i. inner (whole g.H.Host.given) (inner_of stack i) (state_of c.args.self.now w)) (sym c.in-Body.is))
    (runs_as (ap (λ d. body (whole g.H.Host.given) d (top (text_count d) stack) (state_of c.args.self.now w)) c.deref.ensures)
    (c.body_of.ensures.answer w told))

pub run_inner-returns-in-AtLevel-clause-answer : goal.run_inner-returns-in-AtLevel-clause-answer
run_inner-returns-in-AtLevel-clause-answer g t c w told =
    runs_as (ap (λ i. inner (whole g.H.Host.given) (inner_of c.args.self.now.values.store.stack i) (state_of c.args.self.now w)) (sym c.in-AtLevel.is))
    (c.script_at_level.ensures.answer w told)

pub body_of-returns-clause-answer : goal.body_of-returns-clause-answer
body_of-returns-clause-answer g t c w told =
    let texts = top (text_count c.args.def.now) c.args.self.now.values.store.stack in
    runs_as (framed_by (body_inside (whole g.H.Host.given) c.args.def.now texts) c.frame_count-count.result c.frame-frame.result (state_of c.args.self.now w) c.frame_count-count.ensures.count c.frame-frame.ensures)
    (restored_runs c.back_to_frame.ensures (c.body_inside-ended.ensures.answer w told))

pub body_of-returns-clause-stack : goal.body_of-returns-clause-stack
body_of-returns-clause-stack g t c =
    restored_pushes c.body_inside-ended.result c.args.self.now.values.store.stack c.body_inside-ended.new.self.values.store.stack c.back_to_frame.new.self.values.store.stack c.back_to_frame.ensures.stack c.body_inside-ended.ensures.stack

pub body_inside-returns-in_err-enter-clause-answer : goal.body_inside-returns-in_err-enter-clause-answer
body_inside-returns-in_err-enter-clause-answer g t c w told =
    let texts = top (text_count c.args.def.now) c.args.self.now.values.store.stack in
    then_stop _ (search rules) (steady_runs (entered c.args.def.now texts) c.in_err-enter.ensures.units (c.in_err-enter.ensures.answer (outer (g.O.Outside.told c.args.out.now) (g.O.Outside.torn c.args.out.now)) w told))

pub body_inside-returns-clause-answer : goal.body_inside-returns-clause-answer
body_inside-returns-clause-answer g t c w told =
    let texts = top (text_count c.args.def.now) c.args.self.now.values.store.stack in
    bind_ok _ (steady_runs (entered c.args.def.now texts) c.in_ok-enter.ensures.units (c.in_ok-enter.ensures.answer (outer (g.O.Outside.told c.args.out.now) (g.O.Outside.torn c.args.out.now)) w told))
    (λ u v e shown. runs_as (ap (λ s. (whole g.H.Host.given).script s (state_of c.enter.new.self v)) c.tree.ensures) (c.script.ensures.answer v e))

pub script_at_level-returns-clause-answer : goal.script_at_level-returns-clause-answer
script_at_level-returns-clause-answer g t c w told =
    let old = c.args.self.now in
    let mid = record old { values = c.use_level.new.self } in
    let script = placed old.values.store.stack c.args.at in
    runs_as (framed_by (λ s. text (whole g.H.Host.given) script (level_current c.args.level s)) c.frame_count-count.result c.frame-frame.result (state_of old w) c.frame_count-count.ensures.count c.frame-frame.ensures)
    (restored_runs c.back_to_frame.ensures
    (runs_as (ap (λ s. text (whole g.H.Host.given) (placed s c.args.at) (state_of mid w)) c.use_level.ensures.stack ∙ ap (text (whole g.H.Host.given) script) (level_state old c.use_level.new.self c.args.level w c.use_level.ensures.vars c.use_level.ensures.cells))
    (c.script_at-ended.ensures.answer w told)))

pub script_at_level-returns-clause-stack : goal.script_at_level-returns-clause-stack
script_at_level-returns-clause-stack g t c =
    subst (λ b. PushesOne b c.script_at-ended.result c.back_to_frame.new.self.values.store.stack) c.use_level.ensures.stack
    (restored_pushes c.script_at-ended.result c.use_level.new.self.store.stack c.script_at-ended.new.self.values.store.stack c.back_to_frame.new.self.values.store.stack c.back_to_frame.ensures.stack c.script_at-ended.ensures.stack)
