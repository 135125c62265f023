use Rattle.std.proofs.Common.{rules, ap, sym, ◌≡◌, ◌∙◌, ◌-◌, ◌++◌, [], List, ℕ, get_or, take, length, subst, arith, append-nil}
use Rattle.tclv_model.specs.Values.{list_of}
use Rattle.tclv_value.specs.Stacks.{under}
use Rattle.tclv_engine.specs.State.{Text, state_of}
use Rattle.tclv_engine.specs.DataAnswers.{of_answer}
use Rattle.tclv_engine.specs.ListAssignment.{listed, IsList}
use Rattle.tclv_engine.specs.Answers.{last_of}
use Rattle.tclv_engine.proofs.Binds.{runs_as, then_stop, bind-done}
use Rattle.tclv_engine.proofs.Leaves.{value_runs, memory_runs}
use Rattle.tclv_engine.proofs.WordLemmas.{same_then}
use Rattle.tclv_engine.proofs.ListLemmas.{list_done, list_stays}
use Rattle.tclv_engine.proofs.ForeachLemmas.{none_of}
use Rattle.tclv_engine.proofs.ExpandLemmas.{refused_words, keeps_pushed, in_place}
use Rattle.tclv_engine.proofs.machine.Machine.expand.Goals as goal
use Rattle.tclv_engine.proofs.machine.Machine.expand.Goals.{In_ok-len}
use Rattle.tclv_engine.proofs.machine.Machine.expand.Given.{Over}

pub returns-in_err-len-clause-answer : goal.returns-in_err-len-clause-answer
returns-in_err-len-clause-answer g c here w told =
    let stack = c.args.self.now.values.store.stack in
    runs_as (bind-done (of_answer (list_of (last_of stack)) (state_of c.args.self.now w)))
    (then_stop _ (search rules)
    (runs_as (ap (λ l. of_answer (list_of (get_or stack (l - 1) [])) (state_of c.args.self.now w)) c.height-list.ensures) (c.in_err-len.ensures.answer here w told)))

pub returns-in_err-len-clause-stack : goal.returns-in_err-len-clause-stack
returns-in_err-len-clause-stack g c = refused_words ℕ c.args.self.now.values.store.stack c.in_err-len.field-0.0 _ c.list_len.new.self.values.store.stack (search rules) c.in_err-len.ensures.stack

-- the text on top is that of the place below the height
here_is : (g : Over) (c : In_ok-len g) → get_or c.args.self.now.values.store.stack (c.height-list.result - 1) [] ≡ last_of c.args.self.now.values.store.stack
here_is g c = ap (λ l. get_or c.args.self.now.values.store.stack (l - 1) []) c.height-list.ensures

is_list : (g : Over) (c : In_ok-len g) → IsList (last_of c.args.self.now.values.store.stack)
is_list g c = subst IsList (here_is g c) c.in_ok-len.ensures.list

none : (g : Over) (c : In_ok-len g) → c.in_ok-len.len ≡ 0 → listed (last_of c.args.self.now.values.store.stack) ≡ []
none g c e = none_of _ (sym (ap (λ t. length (listed t)) (here_is g c)) ∙ sym c.in_ok-len.ensures.len ∙ e)

empty_stack : (g : Over) (c : In_ok-len g) (now : List Text) → c.in_ok-len.len ≡ 0 → now ≡ take (length c.list_len.new.self.values.store.stack - 1) c.list_len.new.self.values.store.stack → now ≡ under 1 c.args.self.now.values.store.stack ++ listed (last_of c.args.self.now.values.store.stack)
empty_stack g c now e h =
    in_place c.args.self.now.values.store.stack c.list_len.new.self.values.store.stack now _ c.in_ok-len.ensures.stack
    (h ∙ sym (ap (λ ts. take (length c.list_len.new.self.values.store.stack - 1) c.list_len.new.self.values.store.stack ++ ts) (none g c e) ∙ append-nil _))

pub returns-then-len-eq0-clause-answer : goal.returns-then-len-eq0-clause-answer
returns-then-len-eq0-clause-answer g c here w told =
    let k = (goal.at.returns-then-len-eq0-clause-answer g c).In_ok-len in
    let stack = c.args.self.now.values.store.stack in
    runs_as (sym (list_done (last_of stack) (state_of c.args.self.now w) (is_list g k)))
    (value_runs c.args.self.now told (same_then c.args.self.now c.list_len.new.self (record c.list_len.new.self { values = c.pop.new.self }) c.in_ok-len.ensures.same (search rules))
    (empty_stack g k c.pop.new.self.store.stack c.if-len-eq0.true c.pop.ensures.popped))

pub returns-then-len-eq0-clause-stack : goal.returns-then-len-eq0-clause-stack
returns-then-len-eq0-clause-stack g c =
    let k = (goal.at.returns-then-len-eq0-clause-stack g c).In_ok-len in
    keeps_pushed (under 1 c.args.self.now.values.store.stack) _ c.pop.new.self.store.stack (empty_stack g k c.pop.new.self.store.stack c.if-len-eq0.true c.pop.ensures.popped)

pub unroll-requires-clause-place : goal.unroll-requires-clause-place
unroll-requires-clause-place g c = omega (arith, c.requires, c.height-list.ensures, ap length c.in_ok-len.ensures.stack)

pub unroll-requires-clause-list : goal.unroll-requires-clause-list
unroll-requires-clause-list g c = list_stays _ _ (ap (λ s. get_or s (c.height-list.result - 1) []) c.in_ok-len.ensures.stack) c.in_ok-len.ensures.list

pub unroll-requires-clause-len : goal.unroll-requires-clause-len
unroll-requires-clause-len g c = c.in_ok-len.ensures.len ∙ ap (λ s. length (listed (get_or s (c.height-list.result - 1) []))) (sym c.in_ok-len.ensures.stack)

full_stack : (g : Over) (c : In_ok-len g) (now : List Text) → now ≡ under 1 c.list_len.new.self.values.store.stack ++ listed (get_or c.list_len.new.self.values.store.stack (c.height-list.result - 1) []) → now ≡ under 1 c.args.self.now.values.store.stack ++ listed (last_of c.args.self.now.values.store.stack)
full_stack g c now h =
    h ∙ ap (λ s. under 1 s ++ listed (get_or s (c.height-list.result - 1) [])) c.in_ok-len.ensures.stack
    ∙ ap (λ t. under 1 c.args.self.now.values.store.stack ++ listed t) (here_is g c)

pub returns-in_err-unroll-clause-answer : goal.returns-in_err-unroll-clause-answer
returns-in_err-unroll-clause-answer g c here w told = memory_runs (search rules) told (c.unroll.ensures.same.events ∙ c.in_ok-len.ensures.same.events)

pub returns-clause-answer : goal.returns-clause-answer
returns-clause-answer g c here w told =
    let k = (goal.at.returns-clause-answer g c).In_ok-len in
    let stack = c.args.self.now.values.store.stack in
    runs_as (sym (list_done (last_of stack) (state_of c.args.self.now w) (is_list g k)))
    (value_runs c.args.self.now told (same_then c.args.self.now c.list_len.new.self c.unroll.new.self c.in_ok-len.ensures.same c.unroll.ensures.same)
    (full_stack g k c.unroll.new.self.values.store.stack c.in_ok-unroll.ensures.unrolled))

pub returns-clause-stack : goal.returns-clause-stack
returns-clause-stack g c =
    let k = (goal.at.returns-clause-stack g c).In_ok-len in
    keeps_pushed (under 1 c.args.self.now.values.store.stack) _ c.unroll.new.self.values.store.stack (full_stack g k c.unroll.new.self.values.store.stack c.in_ok-unroll.ensures.unrolled)
