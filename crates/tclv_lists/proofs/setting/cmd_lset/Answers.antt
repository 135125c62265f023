use Rattle.tclv_model.specs.declared.usages.Usage.TheVariants as command
use Rattle.tclv_model.specs.Usages.{usage_of}
use Rattle.std.proofs.Common.{◌≡◌, ◌<◌, ◌-◌, [], sym, subst, arith}
use Rattle.tclv_model.specs.declared.data_commands.VarState.TheVariants as var
use Rattle.tclv_value.specs.Stacks.{top}
use Rattle.tclv_reply.specs.Replies.{call_word, variable_of, VarAnswers}
use Rattle.tclv_lists.specs.Variables.{row_lset, Sets, SetsOpen}
use Rattle.tclv_reply.proofs.Laws.{count_words, var_as}
use Rattle.tclv_lists.proofs.StoredLemmas.{var_count, lset_count}
use Rattle.tclv_lists.proofs.VariableLemmas.{on_ok, on_ok_then}
use Rattle.tclv_lists.proofs.AtOnceLemmas.{sets_cell, sets_none, given_cell}
use Rattle.tclv_lists.proofs.setting.cmd_lset.Goals as goal

pub returns-then-n-lt2-clause-answer : goal.returns-then-n-lt2-clause-answer
returns-then-n-lt2-clause-answer c =
    let old = c.args.store.now in
    let n = c.args.n in
    var_as _ _ c.args.variable n _ _ _ (lset_count (call_word n old.stack) (top n old.stack) (variable_of c.args.variable old) (omega (arith, count_words old.stack [] n (omega arith))))
    (var_count (call_word n old.stack) (usage_of command.Lset) c.args.variable n old c.refuse_words.new.store c.refuse_words.result c.refuse_words.ensures)

pub returns-then-n-lt2-clause-object : goal.returns-then-n-lt2-clause-object
returns-then-n-lt2-clause-object c = on_ok c.refuse_words.result _ (λ more. absurd (omega (arith, more, c.if-n-lt2.true)))

pub returns-then-n-eq2-clause-object : goal.returns-then-n-eq2-clause-object
returns-then-n-eq2-clause-object c = on_ok c.set_by_steps.result _ (λ more. absurd (omega (arith, more, c.if-n-eq2.true)))

pub returns-in-Some-clause-answer : goal.returns-in-Some-clause-answer
returns-in-Some-clause-answer c = given_cell c.args.variable c.in-Some.cell c.args.n c.args.store.now c.set_in_cell.new.store c.set_in_cell.result c.in-Some.ensures.some.0 c.set_in_cell.ensures.answer

pub returns-in-Some-clause-object : goal.returns-in-Some-clause-object
returns-in-Some-clause-object c = on_ok_then c.set_in_cell.result _ _ (λ h more. sets_cell c.args.variable c.in-Some.cell (c.args.n - 2) c.args.store.now c.set_in_cell.new.store c.in-Some.ensures.some.0 h) c.set_in_cell.ensures.object

pub returns-in-None-clause-object : goal.returns-in-None-clause-object
returns-in-None-clause-object c = on_ok c.set_by_steps-in-None.result _ (λ more. sets_none c.args.variable (c.args.n - 2) c.args.store.now c.set_by_steps-in-None.new.store c.in-None.ensures.none)
