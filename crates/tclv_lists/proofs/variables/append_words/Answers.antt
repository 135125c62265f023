use Rattle.std.proofs.Common.{◌≡◌, ◌≤◌, ◌∙◌, ◌-◌, List, ℕ, ◌∷◌, ◌++◌, [], length, take, sym, ap, arith}
use Rattle.std.specs.Ordering.{nat_cmp}
use Rattle.std.specs.FinMap.{FinMap, insert}
use Rattle.tclv_text.specs.Elements.{elements}
use Rattle.tclv_text.specs.Quotes.{list_text}
use Rattle.tclv_model.specs.Rows.{Answer, VarAnswer, and_then}
use Rattle.tclv_model.specs.Values.{list_of}
use Rattle.tclv_model.specs.declared.data_commands.VarState.TheVariants as var
use Rattle.tclv_value.specs.View.{text_at}
use Rattle.tclv_value.specs.declared.places.At.TheVariants.{Cell}
use Rattle.tclv_value.specs.Stacks.{top, under}
use Rattle.tclv_value.specs.Lists.{replaced}
use Rattle.tclv_value.specs.Changes.{Puts}
use Rattle.tclv_reply.specs.Variables.{both}
use Rattle.tclv_reply.proofs.Laws.{refused_on, refused_after, grows_trans, grows_kept, cells_text, cell_there, cell_text, var_given, var_refused, list_known, under_under}
use Rattle.tclv_lists.proofs.VariableLemmas.{replaced_behind, appends_more, not_ok}
use Rattle.tclv_lists.proofs.variables.append_words.Goals as goal
use Rattle.tclv_lists.proofs.variables.append_words.Goals.{In-Ok-list_replace}

-- what the list_replace did, for the elements of the list
abbrev put : In-Ok-list_replace → List (List ℕ) → Type 0
put c ts = Puts c.read_len.new.store (c.args.n - 1) (Cell c.args.cell) (list_text (replaced ts c.in-Ok.len c.in-Ok.len (top (c.args.n - 1) c.read_len.new.store.stack))) c.list_replace.new.self

puts : (c : In-Ok-list_replace) → put c c.in-Ok.ensures.reads.gives.read
puts c =
    let old = c.args.store.now in
    let mid = c.read_len.new.store in
    let r = c.in-Ok.ensures.reads in
    list_known (elements (text_at mid (Cell c.args.cell))) r.gives.read (put c) (ap list_of (cells_text old mid c.args.cell r.grows.cells) ∙ r.gives.given) c.in-Ok-list_replace.ensures.replaced

pub returns-in-Err-clause-answer : goal.returns-in-Err-clause-answer
returns-in-Err-clause-answer c =
    let old = c.args.store.now in
    let mid = c.read_len.new.store in
    let t = text_at old (Cell c.args.cell) in
    let n = c.args.n in
    let f : List (List ℕ) → VarAnswer = λ ts. both (list_text (ts ++ top (n - 1) old.stack)) in
    let r = c.in-Err.ensures.reads in
    let h = c.height-height.ensures in
    let le : n ≤ c.height-height.result = omega arith in
    var_refused (and_then (list_of t) f) (var.Cell c.args.cell) n old mid c.settle.new.store c.height-height.result c.in-Err.kind c.settle.result h le r.grows (refused_on (list_of t) f c.in-Err.kind old.stack mid.stack r.refuses) c.settle.ensures.settles c.settle.ensures.same

pub give_text-requires-clause-cell : goal.give_text-requires-clause-cell
give_text-requires-clause-cell c = let p = puts (goal.at.give_text-requires-clause-cell c).In-Ok-list_replace in cell_there c.list_replace.new.self c.read_len.new.store.cells c.args.cell _ p.cells

pub returns-in-Ok-list_replace-clause-answer : goal.returns-in-Ok-list_replace-clause-answer
returns-in-Ok-list_replace-clause-answer c =
    let old = c.args.store.now in
    let mid = c.read_len.new.store in
    let t = text_at old (Cell c.args.cell) in
    let n = c.args.n in
    let r = c.in-Ok.ensures.reads in
    let ts = r.gives.read in
    let words = top (n - 1) old.stack in
    let f : List (List ℕ) → VarAnswer = λ us. both (list_text (us ++ words)) in
    let p = puts (goal.at.returns-in-Ok-list_replace-clause-answer c).In-Ok-list_replace in
    let now = c.list_replace.new.self in
    let u = list_text (replaced ts c.in-Ok.len c.in-Ok.len (top (n - 1) mid.stack)) in
    let same = ap (λ (s : List (List ℕ)). list_text (replaced ts c.in-Ok.len c.in-Ok.len (top (n - 1) s))) r.kept ∙ ap list_text (replaced_behind ts words c.in-Ok.len r.gives.shown) in
    let under_is = p.stack ∙ ap (under (n - 1)) r.kept in
    let one : n - (n - 1) ≡ 1 = omega arith in
    let short = ap (λ (k : ℕ). take (length (under (n - 1) old.stack) - k) (under (n - 1) old.stack)) (sym one) ∙ under_under old.stack n (n - 1) (omega arith) (omega arith) in
    var_given (and_then (list_of t) f) (var.Cell c.args.cell) n old c.give_text.new.store _ _ tt (ap (λ (a : Answer (List (List ℕ))). and_then a f) r.gives.given)
    (c.give_text.ensures.stack
    ∙ ap (λ (s : List (List ℕ)). take (length s - 1) s ++ text_at now (Cell c.args.cell) ∷ []) under_is
    ∙ ap (λ (s : List (List ℕ)). s ++ text_at now (Cell c.args.cell) ∷ []) short
    ∙ ap (λ (x : List ℕ). under n old.stack ++ x ∷ []) (cell_text now mid.cells c.args.cell u p.cells ∙ same))
    (c.give_text.ensures.cells ∙ p.cells ∙ ap (λ (m : FinMap nat_cmp (List ℕ)). insert m c.args.cell u) r.grows.cells ∙ ap (insert old.cells c.args.cell) same)

pub returns-in-Err-list_replace-clause-answer : goal.returns-in-Err-list_replace-clause-answer
returns-in-Err-list_replace-clause-answer c =
    let old = c.args.store.now in
    let mid = c.read_len.new.store in
    let mid2 = c.list_replace.new.self in
    let t = text_at old (Cell c.args.cell) in
    let n = c.args.n in
    let f : List (List ℕ) → VarAnswer = λ ts. both (list_text (ts ++ top (n - 1) old.stack)) in
    let r = c.in-Ok.ensures.reads in
    let k = c.in-Err-list_replace.ensures.kept in
    let grown = grows_trans old mid mid2 r.grows (grows_kept mid mid2 k) in
    let kind = c.refuse_list-kind.result in
    let last = c.refuse_list-kind.new.store in
    let h = c.height-height.ensures in
    let le : n ≤ c.height-height.result = omega arith in
    let same = ap list_of (sym (cells_text old mid c.args.cell r.grows.cells) ∙ sym (cells_text mid mid2 c.args.cell k.cells)) in
    var_refused (and_then (list_of t) f) (var.Cell c.args.cell) n old last c.settle-in-Err-list_replace.new.store c.height-height.result kind c.settle-in-Err-list_replace.result h le
    (grows_trans old mid2 last grown c.refuse_list-kind.ensures.grows)
    (refused_on (list_of t) f kind old.stack last.stack (refused_after (list_of t) (list_of (text_at mid2 (Cell c.args.cell))) kind old mid2 last grown same c.refuse_list-kind.ensures.refused))
    c.settle-in-Err-list_replace.ensures.settles c.settle-in-Err-list_replace.ensures.same

pub returns-in-Err-clause-object : goal.returns-in-Err-clause-object
returns-in-Err-clause-object c = not_ok c.settle.result c.in-Err.kind _ c.settle.ensures.same

pub returns-in-Ok-list_replace-clause-object : goal.returns-in-Ok-list_replace-clause-object
returns-in-Ok-list_replace-clause-object c =
    let e = c.in-Ok.ensures in
    let r = c.in-Ok-list_replace.ensures in
    appends_more c.args.store.now c.read_len.new.store c.list_replace.new.self c.give_text.new.store c.args.cell (c.args.n - 1) c.in-Ok.len e.objects e.unread r.changed r.shares c.give_text.ensures.objects

pub returns-in-Err-list_replace-clause-object : goal.returns-in-Err-list_replace-clause-object
returns-in-Err-list_replace-clause-object c = not_ok c.settle-in-Err-list_replace.result c.refuse_list-kind.result _ c.settle-in-Err-list_replace.ensures.same
