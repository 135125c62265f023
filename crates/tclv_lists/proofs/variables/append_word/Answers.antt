use Rattle.std.proofs.Common.{◌≡◌, ◌≤◌, ◌∙◌, ◌-◌, List, ℕ, ◌∷◌, ◌++◌, [], length, take, sym, ap, arith}
use Rattle.tclv_text.specs.Elements.{elements}
use Rattle.tclv_text.specs.Quotes.{list_text}
use Rattle.tclv_model.specs.Rows.{Answer, VarAnswer, Gives, and_then}
use Rattle.tclv_model.specs.Values.{list_of}
use Rattle.tclv_model.specs.declared.data_commands.VarState.TheVariants as var
use Rattle.tclv_value.specs.View.{text_at}
use Rattle.tclv_value.specs.declared.places.At.TheVariants.{Cell}
use Rattle.tclv_value.specs.Stacks.{top, under}
use Rattle.tclv_value.specs.Changes.{Puts}
use Rattle.tclv_reply.specs.Variables.{both}
use Rattle.tclv_reply.proofs.Laws.{refused_on, refused_after, grows_trans, grows_kept, cells_text, cell_there, cell_text, var_given, var_refused, under_under}
use Rattle.tclv_lists.proofs.VariableLemmas.{a_list, appends_one, not_ok}
use Rattle.tclv_lists.proofs.variables.append_word.Goals as goal
use Rattle.tclv_lists.proofs.variables.append_word.Goals.{In-Ok}

-- what the list_append did, for the elements of the list
abbrev put : In-Ok → List (List ℕ) → Type 0
put c ts = Puts c.args.store.now 1 (Cell c.args.cell) (list_text (ts ++ top 1 c.args.store.now.stack)) c.list_append.new.self

puts : (c : In-Ok) → (ts : List (List ℕ)) × (list_of (text_at c.args.store.now (Cell c.args.cell)) ≡ Gives ts) × put c ts
puts c = a_list (elements (text_at c.args.store.now (Cell c.args.cell))) (put c) c.in-Ok.ensures.appended

pub give_text-requires-clause-cell : goal.give_text-requires-clause-cell
give_text-requires-clause-cell c = let p = puts (goal.at.give_text-requires-clause-cell c).In-Ok in cell_there c.list_append.new.self c.args.store.now.cells c.args.cell _ p.2.cells

pub returns-in-Ok-clause-answer : goal.returns-in-Ok-clause-answer
returns-in-Ok-clause-answer c =
    let old = c.args.store.now in
    let t = text_at old (Cell c.args.cell) in
    let words = top 1 old.stack in
    let f : List (List ℕ) → VarAnswer = λ us. both (list_text (us ++ words)) in
    let l = puts (goal.at.returns-in-Ok-clause-answer c).In-Ok in
    let p = l.2 in
    let now = c.list_append.new.self in
    let u = list_text (l.0 ++ words) in
    var_given (and_then (list_of t) f) (var.Cell c.args.cell) 2 old c.give_text.new.store _ _ tt (ap (λ (a : Answer (List (List ℕ))). and_then a f) l.1)
    (c.give_text.ensures.stack
    ∙ ap (λ (s : List (List ℕ)). take (length s - 1) s ++ text_at now (Cell c.args.cell) ∷ []) p.stack
    ∙ ap (λ (s : List (List ℕ)). s ++ text_at now (Cell c.args.cell) ∷ []) (under_under old.stack 2 1 (omega arith) (omega arith))
    ∙ ap (λ (x : List ℕ). under 2 old.stack ++ x ∷ []) (cell_text now old.cells c.args.cell u p.cells))
    (c.give_text.ensures.cells ∙ p.cells)

pub returns-in-Ok-clause-object : goal.returns-in-Ok-clause-object
returns-in-Ok-clause-object c =
    let e = c.in-Ok.ensures in
    appends_one c.args.store.now c.list_append.new.self c.give_text.new.store c.args.cell e.changed e.counters e.shared c.give_text.ensures.objects

pub returns-in-Err-clause-object : goal.returns-in-Err-clause-object
returns-in-Err-clause-object c = not_ok c.settle.result c.refuse_list-kind.result _ c.settle.ensures.same

pub returns-in-Err-clause-answer : goal.returns-in-Err-clause-answer
returns-in-Err-clause-answer c =
    let old = c.args.store.now in
    let mid = c.list_append.new.self in
    let last = c.refuse_list-kind.new.store in
    let t = text_at old (Cell c.args.cell) in
    let f : List (List ℕ) → VarAnswer = λ us. both (list_text (us ++ top 1 old.stack)) in
    let k = c.in-Err.ensures.kept in
    let grown = grows_kept old mid k in
    let kind = c.refuse_list-kind.result in
    let h = c.height-height.ensures in
    let le : 2 ≤ c.height-height.result = omega arith in
    let same = ap list_of (sym (cells_text old mid c.args.cell k.cells)) in
    var_refused (and_then (list_of t) f) (var.Cell c.args.cell) 2 old last c.settle.new.store c.height-height.result kind c.settle.result h le
    (grows_trans old mid last grown c.refuse_list-kind.ensures.grows)
    (refused_on (list_of t) f kind old.stack last.stack (refused_after (list_of t) (list_of (text_at mid (Cell c.args.cell))) kind old mid last grown same c.refuse_list-kind.ensures.refused))
    c.settle.ensures.settles c.settle.ensures.same
