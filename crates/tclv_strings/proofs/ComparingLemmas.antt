-- Laws of the options of a comparison, of its words, and of the order of texts.
use Rattle.std.proofs.Common.{◌≡◌, ◌≢◌, ℕ, ◌+◌, ◌-◌, ◌<◌, ◌≤◌, Bool, true, false, cond, List, [], ◌∷◌, length, take, drop, get_or, refl, sym, ap, ap₂, ◌∙◌, arith, ltb, ◌||◌}
use Rattle.std.specs.Prelude.{codes}
use Rattle.std.specs.Ordering.{nat_cmp, ordering_then}
use Rattle.std.specs.Cmp.Lexicographic.{slice_cmp}
use Rattle.std.specs.declared.cmp.Ordering.{Ordering}
use Rattle.std.specs.declared.cmp.Ordering.TheVariants.{Less, Equal, Greater}
use Rattle.std.specs.Str.{bytes_eq}
use Rattle.std.proofs.lemmas.Bool.{lt-ltb, le-ltb}
use Rattle.std.proofs.lemmas.List.{drop-drop, get_or-drop}
use Rattle.tclv_text.specs.Globs.{folded, folded_char}
use Rattle.tclv_model.specs.Rows.{Answer, RowAnswer, and_then, wrong_count}
use Rattle.tclv_model.specs.Usages.{usage_of}
use Rattle.tclv_model.specs.declared.usages.Usage.TheVariants as command
use Rattle.tclv_model.specs.Values.{whole_of}
use Rattle.tclv_value.specs.View.{View}
use Rattle.tclv_value.specs.Stacks.{top}
use Rattle.tclv_strings.specs.declared.comparing.ComparedAs.{ComparedAs}
use Rattle.tclv_strings.specs.declared.comparing.Verdict.{Verdict}
use Rattle.tclv_strings.specs.Comparing.{nocase_read, with_case, with_len, comparison_read, verdict_count, compared_by, row_compare, row_match}
use Rattle.tclv_reply.proofs.Laws.{Went, went_as, words_step, count_words, first_word, three_words}

-- The options from the left.
module _ (missing : Answer ComparedAs) where
  value_first : (o v : List ℕ) (os : List (List ℕ)) (x : ComparedAs) → bytes_eq o (codes "-length") ≡ true →
      comparison_read missing (o ∷ v ∷ os) x ≡ and_then (whole_of v) (λ n. comparison_read missing os (with_len x n))
  value_first o v os x e =
      ap (λ (b : Bool). cond b (and_then (whole_of v) (λ n. comparison_read missing os (with_len x n))) (and_then (nocase_read o) (λ c. comparison_read missing (v ∷ os) (with_case x c)))) e

  value_missing : (o : List ℕ) (x : ComparedAs) → bytes_eq o (codes "-length") ≡ true → comparison_read missing (o ∷ []) x ≡ missing
  value_missing o x e = ap (λ (b : Bool). cond b missing (and_then (nocase_read o) (λ c. comparison_read missing [] (with_case x c)))) e

  word_first : (o : List ℕ) (os : List (List ℕ)) (x : ComparedAs) → bytes_eq o (codes "-length") ≡ false →
      comparison_read missing (o ∷ os) x ≡ and_then (nocase_read o) (λ c. comparison_read missing os (with_case x c))
  word_first o [] x e = ap (λ (b : Bool). cond b missing (and_then (nocase_read o) (λ c. comparison_read missing [] (with_case x c)))) e
  word_first o (v ∷ os) x e =
      ap (λ (b : Bool). cond b (and_then (whole_of v) (λ n. comparison_read missing os (with_len x n))) (and_then (nocase_read o) (λ c. comparison_read missing (v ∷ os) (with_case x c)))) e

module _ (missing : Answer ComparedAs) {row : Answer ComparedAs} {old cur : View} (at to : ℕ) (x : ComparedAs) (h : at < to) (l : to ≤ length old.stack) (w : Went row (comparison_read missing (take (to - at) (drop at old.stack)) x) old cur) where
  pub len_step : bytes_eq (get_or old.stack at []) (codes "-length") ≡ true → at + 1 ≢ to →
      Went row (and_then (whole_of (get_or old.stack (at + 1) [])) (λ n. comparison_read missing (take (to - (at + 2)) (drop (at + 2) old.stack)) (with_len x n))) old cur
  len_step e ne =
      let o = get_or old.stack at [] in
      let v = get_or old.stack (at + 1) [] in
      let two : at + 1 + 1 ≡ at + 2 = omega arith in
      let words : take (to - at) (drop at old.stack) ≡ o ∷ v ∷ take (to - (at + 2)) (drop (at + 2) old.stack) =
      words_step old.stack at to h l ∙ ap (λ r. o ∷ r) (words_step old.stack (at + 1) to (omega arith) l) ∙ ap (λ k. o ∷ v ∷ take (to - k) (drop k old.stack)) two in
      went_as _ w (ap (λ ws. comparison_read missing ws x) words ∙ value_first missing o v (take (to - (at + 2)) (drop (at + 2) old.stack)) x e)

  pub len_missing : bytes_eq (get_or old.stack at []) (codes "-length") ≡ true → at + 1 ≡ to → row ≡ missing
  len_missing e last =
      let o = get_or old.stack at [] in
      let none : to - (at + 1) ≡ 0 = omega arith in
      let words : take (to - at) (drop at old.stack) ≡ o ∷ [] = words_step old.stack at to h l ∙ ap (λ k. o ∷ take k (drop (at + 1) old.stack)) none in
      w.is ∙ ap (λ ws. comparison_read missing ws x) words ∙ value_missing missing o x e

  pub case_step : bytes_eq (get_or old.stack at []) (codes "-length") ≡ false →
      Went row (and_then (nocase_read (get_or old.stack at [])) (λ c. comparison_read missing (take (to - (at + 1)) (drop (at + 1) old.stack)) (with_case x c))) old cur
  case_step e =
      let o = get_or old.stack at [] in
      went_as _ w (ap (λ ws. comparison_read missing ws x) (words_step old.stack at to h l) ∙ word_first missing o (take (to - (at + 1)) (drop (at + 1) old.stack)) x e)

-- The order of texts: what their first code points say, and where one of them ends.
module _ (n : Bool) (one other : List ℕ) where
  abbrev order : List ℕ → List ℕ → Ordering
  order x y = slice_cmp nat_cmp (folded n x) (folded n y)

  pub order_step : (o : Ordering) (c d : ℕ) (behind rest : List ℕ) → one ≡ c ∷ behind → other ≡ d ∷ rest → nat_cmp (folded_char n c) (folded_char n d) ≡ o → order one other ≡ ordering_then o (order behind rest)
  order_step o c d behind rest e f g = ap₂ order e f ∙ ap (λ q. ordering_then q (order behind rest)) g

  pub order_longer : (c : ℕ) (behind : List ℕ) → one ≡ c ∷ behind → other ≡ [] → order one other ≡ Greater
  order_longer c behind e f = ap₂ order e f

  pub order_same : one ≡ [] → other ≡ [] → order one other ≡ Equal
  order_same e f = ap₂ order e f

  pub order_shorter : one ≡ [] → 0 < length other → order one other ≡ Less
  order_shorter e h = ap (λ x. order x other) e ∙ some other h
    where
      some : (t : List ℕ) → 0 < length t → order [] t ≡ Less
      some [] k = absurd (omega arith)
      some (d ∷ t) k = refl

-- The row at other numbers of words.
compare_count : (v : Verdict) (call : List ℕ) (words : List (List ℕ)) → (ltb (length words) 3 || ltb 6 (length words)) ≡ true → row_compare v call words ≡ verdict_count v call
compare_count v call words h =
    let n = length words in
    ap (λ (b : Bool). cond b (verdict_count v call) (compared_by v call (take (n - 3) (drop 1 words)) (get_or words (n - 2) []) (get_or words (n - 1) []))) h

or_true : (b : Bool) → (b || true) ≡ true
or_true true = refl
or_true false = refl

pub compare_few : (v : Verdict) (call : List ℕ) (words : List (List ℕ)) → length words < 3 → row_compare v call words ≡ verdict_count v call
compare_few v call words h = compare_count v call words (ap (λ (b : Bool). b || ltb 6 (length words)) (lt-ltb (length words) 3 h))

pub compare_many : (v : Verdict) (call : List ℕ) (words : List (List ℕ)) → 6 < length words → row_compare v call words ≡ verdict_count v call
compare_many v call words h = compare_count v call words (ap (λ (b : Bool). ltb (length words) 3 || b) (lt-ltb 6 (length words) h) ∙ or_true (ltb (length words) 3))

-- The row where the words are the top of a stack.
abbrev pub compared_at : Verdict → List ℕ → List (List ℕ) → ℕ → ℕ → RowAnswer
compared_at v call s n h = compared_by v call (take (h - 2 - (h - n + 1)) (drop (h - n + 1) s)) (get_or s (h - 2) []) (get_or s (h - 1) [])

pub compare_row : (v : Verdict) (call : List ℕ) (s : List (List ℕ)) (n h : ℕ) → 3 ≤ n → n ≤ 6 → n ≤ length s → h ≡ length s →
    row_compare v call (top n s) ≡ compared_at v call s n h
compare_row v call s n h low high l e =
    let ws = top n s in
    let len : length ws ≡ n = count_words s [] n l in
    let few : ltb (length ws) 3 ≡ false = le-ltb (length ws) 3 (omega arith) in
    let many : ltb 6 (length ws) ≡ false = le-ltb 6 (length ws) (omega arith) in
    let answer : List (List ℕ) → List ℕ → List ℕ → RowAnswer = λ os a b. compared_by v call os a b in
    let count : (ltb (length ws) 3 || ltb 6 (length ws)) ≡ false = ap₂ (λ (p q : Bool). p || q) few many in
    let start : length s - n + 1 ≡ h - n + 1 = omega arith in
    let some : length ws - 3 ≡ h - 2 - (h - n + 1) = omega arith in
    let at : (k i : ℕ) → length s - n + k ≡ i → get_or ws k [] ≡ get_or s i [] = λ k i q. get_or-drop (length s - n) s k [] ∙ ap (λ m. get_or s m []) q in
    ap (λ (b : Bool). cond b (verdict_count v call) (answer (take (length ws - 3) (drop 1 ws)) (get_or ws (length ws - 2) []) (get_or ws (length ws - 1) []))) count
    ∙ ap (λ (os : List (List ℕ)). answer os (get_or ws (length ws - 2) []) (get_or ws (length ws - 1) [])) (ap₂ (λ (m : ℕ) (q : List (List ℕ)). take m q) some (drop-drop 1 (length s - n) s ∙ ap (λ m. drop m s) start))
    ∙ ap₂ (answer (take (h - 2 - (h - n + 1)) (drop (h - n + 1) s))) (at (length ws - 2) (h - 2) (omega arith)) (at (length ws - 1) (h - 1) (omega arith))

pub match_count : (call : List ℕ) (words : List (List ℕ)) → length words ≢ 3 → length words ≢ 4 → row_match call words ≡ wrong_count call (usage_of command.StringMatch)
match_count call [] h k = refl
match_count call (a ∷ []) h k = refl
match_count call (a ∷ b ∷ []) h k = refl
match_count call (a ∷ b ∷ c ∷ []) h k = absurd (h refl)
match_count call (a ∷ b ∷ c ∷ d ∷ []) h k = absurd (k refl)
match_count call (a ∷ b ∷ c ∷ d ∷ e ∷ ws) h k = refl

-- the last four of the words, by the height of the stack
pub four_words : (s : List (List ℕ)) (n h : ℕ) → n ≡ 4 → 4 ≤ length s → h ≡ length s → top n s ≡ get_or s (h - 4) [] ∷ get_or s (h - 3) [] ∷ get_or s (h - 2) [] ∷ get_or s (h - 1) [] ∷ []
four_words s n h e l f =
    ap (λ k. top k s) e ∙ first_word s [] 4 (omega arith) l
    ∙ ap (λ r. get_or s (length s - 4) [] ∷ r) (three_words s [] 3 refl (omega arith))
    ∙ ap (λ (k : ℕ). get_or s (k - 4) [] ∷ get_or s (k - 3) [] ∷ get_or s (k - 2) [] ∷ get_or s (k - 1) [] ∷ []) (sym f)
