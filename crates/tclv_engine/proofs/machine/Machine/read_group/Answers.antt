use Rattle.std.proofs.Common.{rules, refl, arith, ap, sym, ◌∙◌, ◌≡◌, ◌<◌, length, [], get_or}
use Rattle.tclv_model.specs.Values.{list_of}
use Rattle.tclv_value.specs.View.{text_at}
use Rattle.tclv_value.specs.declared.places.At.TheVariants.{Stack}
use Rattle.tclv_model.specs.declared.error_codes.ErrorCode.TheVariants.{NoCode}
use Rattle.tclv_engine.specs.State.{state_of}
use Rattle.tclv_engine.specs.DataAnswers.{of_answer}
use Rattle.tclv_engine.specs.ListAssignment.{listed}
use Rattle.tclv_engine.proofs.Binds.{runs_as, bind_ok, bind_stop, then_stop}
use Rattle.tclv_engine.proofs.Leaves.{raise_bare, done_runs}
use Rattle.tclv_engine.proofs.ListLemmas.{list_stays}
use Rattle.tclv_engine.proofs.ForeachLemmas.{group_named, group_unnamed, group_known, none_of}
use Rattle.tclv_engine.proofs.machine.Machine.read_group.Goals as goal

pub returns-in_err-name_count-clause-answer : goal.returns-in_err-name_count-clause-answer
returns-in_err-name_count-clause-answer g c here w told = then_stop _ (search rules) (c.in_err-name_count.ensures.answer here w told)

pub returns-then-name_count-eq0-clause-answer : goal.returns-then-name_count-eq0-clause-answer
returns-then-name_count-eq0-clause-answer g c here w told =
    let list = text_at c.args.self.now.values.store (Stack c.args.values) in
    bind_ok _ (c.in_ok-name_count.ensures.answer here w told)
    (λ ns v e shown. runs_as (group_unnamed c.args.empty ns list (state_of c.list_len.new.self v) (none_of ns (sym shown.1 ∙ c.if-name_count-eq0.true)))
    (bind_stop _ (raise_bare {T = Unit {0}} {shows = λ a t stack. Unit {0}} c.list_len.new.self c.args.empty c.args.empty NoCode NoCode e c.raise.ensures.same refl refl c.raise.ensures.raises)))

pub returns-in_err-value_count-clause-answer : goal.returns-in_err-value_count-clause-answer
returns-in_err-value_count-clause-answer g c here w told =
    let list = text_at c.args.self.now.values.store (Stack c.args.values) in
    let some : 0 < c.in_ok-name_count.name_count = search rules in
    let text = ap (λ s. get_or s c.args.values []) c.in_ok-name_count.ensures.stack in
    bind_ok _ (c.in_ok-name_count.ensures.answer here w told)
    (λ ns v e shown. runs_as (group_named c.args.empty ns list (state_of c.list_len.new.self v) (omega (arith, some, shown.1)))
    (then_stop _ (search rules) (runs_as (ap (λ t. of_answer (list_of t) (state_of c.list_len.new.self v)) text) (c.in_err-value_count.ensures.answer here v e))))

pub returns-clause-answer : goal.returns-clause-answer
returns-clause-answer g c here w told =
    let old = c.args.self.now.values.store.stack in
    let list = text_at c.args.self.now.values.store (Stack c.args.values) in
    let some : 0 < c.in_ok-name_count.name_count = search rules in
    let text = ap (λ s. get_or s c.args.values []) c.in_ok-name_count.ensures.stack in
    bind_ok _ (c.in_ok-name_count.ensures.answer here w told)
    (λ ns v e shown. runs_as (group_named c.args.empty ns list (state_of c.list_len.new.self v) (omega (arith, some, shown.1)))
    (bind_ok _ (runs_as (ap (λ t. of_answer (list_of t) (state_of c.list_len.new.self v)) text) (c.in_ok-value_count.ensures.answer here v e))
    (λ vs v2 e2 shown2. done_runs e2 refl
    (group_known old c.list_len.new.self.values.store.stack c.list_len-2.new.self.values.store.stack (record { names = c.args.names; values = c.args.values; name_count = c.in_ok-name_count.name_count; value_count = c.in_ok-value_count.value_count }) ns vs c.in_ok-name_count.ensures.stack c.in_ok-value_count.ensures.stack shown.0 shown2.0))))

pub returns-clause-inside : goal.returns-clause-inside
returns-clause-inside g c =
    let text = ap (λ s. get_or s c.args.values []) c.in_ok-name_count.ensures.stack in
    record {
      names_in = c.requires.names;
      values_in = c.requires.values;
      names_list = c.in_ok-name_count.ensures.list;
      values_list = list_stays _ _ (sym text) c.in_ok-value_count.ensures.list;
      name_count = c.in_ok-name_count.ensures.len;
      value_count = c.in_ok-value_count.ensures.len ∙ ap (λ t. length (listed t)) text;
      some_name = search rules;
    }
