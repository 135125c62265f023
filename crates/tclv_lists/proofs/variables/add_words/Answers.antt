use Rattle.std.proofs.Common.{◌≡◌, ◌∙◌, ◌-◌, ◌++◌, List, ℕ, [], sym, ap, subst, arith}
use Rattle.tclv_text.specs.Quotes.{list_text}
use Rattle.tclv_reply.specs.Replies.{VarAnswers}
use Rattle.tclv_model.specs.Rows.{VarAnswer, and_then}
use Rattle.tclv_model.specs.Values.{list_of}
use Rattle.tclv_model.specs.declared.data_commands.VarState.TheVariants as var
use Rattle.std.specs.FinMap.{get}
use Rattle.tclv_value.specs.ListObjects.{AppendsTop}
use Rattle.tclv_value.specs.View.{text_at}
use Rattle.tclv_value.specs.declared.places.At.TheVariants.{Cell}
use Rattle.tclv_value.specs.Stacks.{top}
use Rattle.tclv_reply.specs.Variables.{both}
use Rattle.tclv_lists.specs.Variables.{appended}
use Rattle.tclv_reply.proofs.Laws.{count_words, no_text, var_as}
use Rattle.tclv_lists.proofs.VariableLemmas.{added_to_none, some_added, on_ok, on_ok_then, unset}
use Rattle.tclv_lists.proofs.variables.add_words.Goals as goal

pub returns-then-not-is_set-clause-answer : goal.returns-then-not-is_set-clause-answer
returns-then-not-is_set-clause-answer c =
    let old = c.args.store.now in
    let n = c.args.n in
    let words = top (n - 1) old.stack in
    let row : List ℕ → VarAnswer = λ t. and_then (list_of t) (λ ts. both (appended t words ts)) in
    let e = ap row (no_text (get old.cells c.args.cell) (c.requires.set ∙ c.if-not-is_set.true)) ∙ added_to_none words in
    var_as _ _ (var.Cell c.args.cell) n _ _ _ e c.make_list.ensures

pub returns-clause-answer : goal.returns-clause-answer
returns-clause-answer c =
    let old = c.args.store.now in
    let n = c.args.n in
    let words = top (n - 1) old.stack in
    var_as _ _ (var.Cell c.args.cell) n _ _ _ (some_added (text_at old (Cell c.args.cell)) words (omega (arith, count_words old.stack [] (n - 1) (omega arith)))) c.append_words.ensures.answer

pub returns-then-n-eq2-clause-answer : goal.returns-then-n-eq2-clause-answer
returns-then-n-eq2-clause-answer c =
    let old = c.args.store.now in
    let n = c.args.n in
    let t = text_at old (Cell c.args.cell) in
    let words = top (n - 1) old.stack in
    let two : n ≡ 2 = c.if-n-eq2.true in
    let P : ℕ → Type 0 = λ k. VarAnswers (and_then (list_of t) (λ ts. both (list_text (ts ++ top (k - 1) old.stack)))) (var.Cell c.args.cell) k old c.append_word.new.store c.append_word.result in
    var_as _ _ (var.Cell c.args.cell) n _ _ _ (some_added t words (omega (arith, two, count_words old.stack [] (n - 1) (omega arith)))) (subst P (sym two) c.append_word.ensures.answer)

pub returns-then-not-is_set-clause-object : goal.returns-then-not-is_set-clause-object
returns-then-not-is_set-clause-object c = on_ok c.make_list.result _ (λ more set. absurd (unset c.args.is_set c.if-not-is_set.true set))

pub returns-then-n-eq1-clause-object : goal.returns-then-n-eq1-clause-object
returns-then-n-eq1-clause-object c = on_ok c.give_list.result _ (λ more set. absurd (omega (arith, more, c.if-n-eq1.true)))

pub returns-then-n-eq2-clause-object : goal.returns-then-n-eq2-clause-object
returns-then-n-eq2-clause-object c = on_ok_then c.append_word.result _ _ (λ h more set. subst (λ k. AppendsTop c.args.store.now (Cell c.args.cell) (k - 1) c.append_word.new.store) (sym c.if-n-eq2.true) h) c.append_word.ensures.object

pub returns-clause-object : goal.returns-clause-object
returns-clause-object c = on_ok_then c.append_words.result _ _ (λ h more set. h) c.append_words.ensures.object
