use Rattle.std.proofs.Common.{◌≡◌, ◌≤◌, ◌+◌, ◌-◌, ◌∙◌, List, ℕ, [], length, take, drop, get_or, sym, ap, arith}
use Rattle.std.proofs.lemmas.List.{get_or-drop}
use Rattle.tclv_value.specs.Stacks.{top}
use Rattle.tclv_reply.specs.Replies.{call_word, variable_of}
use Rattle.tclv_lists.specs.Paths.{path_of}
use Rattle.tclv_lists.specs.Variables.{lset_of, row_lset}
use Rattle.tclv_reply.proofs.Laws.{first_word, count_words, var_as}
use Rattle.tclv_lists.proofs.StoredLemmas.{stored, stored_room, lset_words}
use Rattle.tclv_lists.proofs.setting.set_by_steps.Goals as goal

-- the words are the name, the indices and the value
words_are : (s : List (List ℕ)) (n height : ℕ) → height ≡ length s → 2 ≤ n → n ≤ length s →
    (take (n - 2) (top (n - 1) s) ≡ take (height - 1 - (height - n + 1)) (drop (height - n + 1) s)) × (get_or (top (n - 1) s) (n - 2) [] ≡ get_or s (height - 1) [])
words_are s n height h two l =
    let from : length s - (n - 1) ≡ height - n + 1 = omega arith in
    let count : n - 2 ≡ height - 1 - (height - n + 1) = omega arith in
    let last : length s - (n - 1) + (n - 2) ≡ height - 1 = omega arith in
    (ap (λ k. take k (top (n - 1) s)) count ∙ ap (λ k. take (height - 1 - (height - n + 1)) (drop k s)) from, get_or-drop (length s - (n - 1)) s (n - 2) [] ∙ ap (λ k. get_or s k []) last)

pub settle-requires-clause-left : goal.settle-requires-clause-left
settle-requires-clause-left c = stored_room _ _ _ c.args.store.now _ _ c.height-height.ensures c.set_value-done.ensures

pub returns : goal.returns
returns c =
    let old = c.args.store.now in
    let s = old.stack in
    let n = c.args.n in
    let h = c.height-height.ensures in
    let height = c.height-height.result in
    let v = variable_of c.args.variable old in
    let le : n ≤ height = omega arith in
    let two : 2 ≤ n = omega arith in
    let fits : n ≤ length s = omega arith in
    let w = words_are s n height h two fits in
    let rest = top (n - 1) s in
    let count : length rest ≡ n - 2 + 1 = omega (arith, count_words s [] (n - 1) (omega arith)) in
    let name = get_or s (length s - n) [] in
    let row = ap (λ (ws : List (List ℕ)). row_lset (call_word n s) ws v) (first_word s [] n (omega arith) fits)
    ∙ lset_words (call_word n s) name rest v (n - 2) count
    ∙ ap (λ (p : List (List ℕ)). lset_of name (path_of p) (get_or rest (n - 2) []) v) w.0
    ∙ ap (λ (x : List ℕ). lset_of name (path_of (take (height - 1 - (height - n + 1)) (drop (height - n + 1) s))) x v) w.1
    ∙ ap (λ (k : ℕ). lset_of (get_or s (k - n) []) (path_of (take (height - 1 - (height - n + 1)) (drop (height - n + 1) s))) (get_or s (height - 1) []) v) (sym h) in
    var_as _ _ c.args.variable n _ _ _ row (stored _ c.args.variable n old _ _ height _ _ h le c.set_value-done.ensures c.settle.ensures.settles c.settle.ensures.same)
