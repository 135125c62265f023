-- Laws of the words of `switch`.
use Rattle.std.proofs.Common.{◌≡◌, ℕ, zero, suc, ◌+◌, ◌-◌, ◌*◌, ◌<◌, ◌≤◌, Bool, true, false, cond, List, [], ◌∷◌, length, drop, get_or, refl, sym, ap, ◌∙◌, subst, arith}
use Rattle.std.specs.Prelude.{codes}
use Rattle.std.specs.Str.{chars, bytes_eq}
use Rattle.std.proofs.lemmas.List.{drop_more, drop_all, get_or-drop, length-drop, drop-drop}
use Rattle.tclv_text.specs.Texts.{IsText}
use Rattle.tclv_text.specs.Globs.{matches}
use Rattle.tclv_model.specs.declared.messages.MessageId.TheVariants.{SwitchPatternWithoutBody, NoBodyForPattern}
use Rattle.tclv_model.specs.Rows.{Answer, Gives, and_then, says, wrong_count}
use Rattle.tclv_model.specs.Values.{list_of}
use Rattle.tclv_value.specs.Stacks.{top}
use Rattle.tclv_reply.specs.declared.comparing.Matching.TheVariants.{Exact, Glob}
use Rattle.tclv_ctl.specs.declared.switching.Leading.{Leading}
use Rattle.tclv_ctl.specs.declared.switching.Leading.TheVariants.{Compare, NoCase, EndOfOptions, Unknown, Plain}
use Rattle.tclv_ctl.specs.Switching.{Text, SwitchClause, Manner, Choice, leading, option, options, clause_words, is_dash, next_body, pairs, ended, clauses, choice, plain, usage, row_switch, held_clauses, given_words, pushed_for, Asked}
use Rattle.tclv_ctl.proofs.TextLemmas.{is_exact, is_glob, is_nocase, is_end}

-- ---- options

module _ (bs : List ℕ) (u : IsText bs) where
  pub reads_exact : bytes_eq bs (codes "-exact") ≡ true → Compare Exact ≡ leading (chars bs)
  reads_exact a = let x : bytes_eq (chars bs) (codes "-exact") ≡ true = sym (is_exact bs u) ∙ a in rw x

  pub reads_glob : bytes_eq bs (codes "-exact") ≡ false → bytes_eq bs (codes "-glob") ≡ true → Compare Glob ≡ leading (chars bs)
  reads_glob a b =
      let x : bytes_eq (chars bs) (codes "-exact") ≡ false = sym (is_exact bs u) ∙ a in
      let y : bytes_eq (chars bs) (codes "-glob") ≡ true = sym (is_glob bs u) ∙ b in rw (x, y)

  pub reads_nocase : bytes_eq bs (codes "-exact") ≡ false → bytes_eq bs (codes "-glob") ≡ false → bytes_eq bs (codes "-nocase") ≡ true → NoCase ≡ leading (chars bs)
  reads_nocase a b c =
      let x : bytes_eq (chars bs) (codes "-exact") ≡ false = sym (is_exact bs u) ∙ a in
      let y : bytes_eq (chars bs) (codes "-glob") ≡ false = sym (is_glob bs u) ∙ b in
      let z : bytes_eq (chars bs) (codes "-nocase") ≡ true = sym (is_nocase bs u) ∙ c in rw (x, y, z)

  pub reads_end : bytes_eq bs (codes "-exact") ≡ false → bytes_eq bs (codes "-glob") ≡ false → bytes_eq bs (codes "-nocase") ≡ false → bytes_eq bs (codes "--") ≡ true → EndOfOptions ≡ leading (chars bs)
  reads_end a b c d =
      let x : bytes_eq (chars bs) (codes "-exact") ≡ false = sym (is_exact bs u) ∙ a in
      let y : bytes_eq (chars bs) (codes "-glob") ≡ false = sym (is_glob bs u) ∙ b in
      let z : bytes_eq (chars bs) (codes "-nocase") ≡ false = sym (is_nocase bs u) ∙ c in
      let w : bytes_eq (chars bs) (codes "--") ≡ true = sym (is_end bs u) ∙ d in rw (x, y, z, w)

  pub reads_other : bytes_eq bs (codes "-exact") ≡ false → bytes_eq bs (codes "-glob") ≡ false → bytes_eq bs (codes "-nocase") ≡ false → bytes_eq bs (codes "--") ≡ false → leading (chars bs) ≡ cond (matches false (codes "-*") (chars bs)) Unknown Plain
  reads_other a b c d =
      let x : bytes_eq (chars bs) (codes "-exact") ≡ false = sym (is_exact bs u) ∙ a in
      let y : bytes_eq (chars bs) (codes "-glob") ≡ false = sym (is_glob bs u) ∙ b in
      let z : bytes_eq (chars bs) (codes "-nocase") ≡ false = sym (is_nocase bs u) ∙ c in
      let w : bytes_eq (chars bs) (codes "--") ≡ false = sym (is_end bs u) ∙ d in rw (x, y, z, w)

options_step : (m : Manner) (w : Text) (ws : List Text) → 2 ≤ length ws → options m (w ∷ ws) ≡ option (leading w) m w ws (λ changed. options changed ws)
options_step m w [] h = absurd (omega arith)
options_step m w (u ∷ []) h = absurd (omega arith)
options_step m w (u ∷ v ∷ ws) h = refl

-- the words from a place on, where two more follow the one there
pub options_at : (m : Manner) (s : List Text) (at : ℕ) → at + 3 ≤ length s → options m (drop at s) ≡ option (leading (get_or s at [])) m (get_or s at []) (drop (at + 1) s) (λ changed. options changed (drop (at + 1) s))
options_at m s at h =
    let next = drop_more s (at + 1) [] (omega arith) in
    let third = drop_more s (at + 1 + 1) [] (omega arith) in
    let long : 2 ≤ length (drop (at + 1) s) = subst (λ (t : List Text). 2 ≤ length t) (sym (next ∙ ap (λ (t : List Text). get_or s (at + 1) [] ∷ t) third)) (omega arith) in
    ap (options m) (drop_more s at [] (omega arith)) ∙ options_step m (get_or s at []) (drop (at + 1) s) long

two_end : (m : Manner) (u v : Text) (ws : List Text) → ws ≡ [] → options m (u ∷ v ∷ ws) ≡ Gives (m, u ∷ v ∷ ws)
two_end m u v ws e = ap (λ (t : List Text). options m (u ∷ v ∷ t)) e ∙ ap (λ (t : List Text). Gives (m, u ∷ v ∷ t)) (sym e)

two_words : (s : List Text) (b : ℕ) → b + 2 ≤ length s → drop b s ≡ get_or s b [] ∷ get_or s (b + 1) [] ∷ drop (b + 1 + 1) s
two_words s b h = drop_more s b [] (omega arith) ∙ ap (λ (t : List Text). get_or s b [] ∷ t) (drop_more s (b + 1) [] (omega arith))

-- the last two words
pub options_end : (m : Manner) (s : List Text) (at : ℕ) → at + 2 ≡ length s → options m (drop at s) ≡ Gives (m, drop at s)
options_end m s at e =
    let none : drop (at + 1 + 1) s ≡ [] = drop_all (at + 1 + 1) s (omega arith) in
    ap (options m) (two_words s at (omega arith)) ∙ two_end m _ _ _ none ∙ ap (λ (t : List Text). Gives (m, t)) (sym (two_words s at (omega arith)))

-- the row where the options up to a place were read, and the word there says this
pub came_to : (s cur : List Text) (m : Manner) (first at : ℕ) (x y : Leading) → options plain (drop first s) ≡ options m (drop at s) → cur ≡ s → x ≡ leading (get_or cur at []) → x ≡ y → at + 3 ≤ length s →
    options plain (drop first s) ≡ option y m (get_or s at []) (drop (at + 1) s) (λ changed. options changed (drop (at + 1) s))
came_to s cur m first at x y came same says is l =
    let w = get_or s at [] in
    let rest = drop (at + 1) s in
    let read : leading w ≡ y = ap (λ (u : List Text). leading (get_or u at [])) (sym same) ∙ sym says ∙ is in
    came ∙ options_at m s at l ∙ ap (λ (z : Leading). option z m w rest (λ changed. options changed rest)) read

-- ---- the words behind the string

-- the plan of these clauses, and the row behind the string with these words
abbrev pub asking : Manner → Text → List SwitchClause → Answer Choice
asking m string cs = Gives (record { manner = m; string = string; clauses = cs })

abbrev pub behind : Manner → Text → List Text → Answer Choice
behind m string ws = and_then (clauses ws) (asking m string)

choice_of : (call : Text) (m : Manner) (string : Text) (words : List Text) → 1 ≤ length words → choice call m (string ∷ words) ≡ and_then (clause_words words) (behind m string)
choice_of call m string [] h = absurd (omega arith)
choice_of call m string (w ∷ ws) h = refl

pub choice_at : (call : Text) (m : Manner) (s : List Text) (at : ℕ) → at + 2 ≤ length s → choice call m (drop at s) ≡ and_then (clause_words (drop (at + 1) s)) (behind m (get_or s at []))
choice_at call m s at h =
    let next = drop_more s (at + 1) [] (omega arith) in
    let long : 1 ≤ length (drop (at + 1) s) = subst (λ (t : List Text). 1 ≤ length t) (sym next) (omega arith) in
    ap (choice call m) (drop_more s at [] (omega arith)) ∙ choice_of call m (get_or s at []) (drop (at + 1) s) long

pub behind_at : (call : Text) (m : Manner) (s : List Text) (at : ℕ) (read words : List Text) → at + 2 ≤ length s → clause_words (drop (at + 1) s) ≡ Gives read → read ≡ words → choice call m (drop at s) ≡ behind m (get_or s at []) words
behind_at call m s at read words h e f = choice_at call m s at h ∙ ap (λ (a : Answer (List Text)). and_then a (behind m (get_or s at []))) e ∙ ap (behind m (get_or s at [])) f

two_or_more : (words : List Text) → 2 ≤ length words → clause_words words ≡ Gives words
two_or_more [] h = absurd (omega arith)
two_or_more (w ∷ []) h = absurd (omega arith)
two_or_more (w ∷ v ∷ ws) h = refl

pub words_at : (s : List Text) (from : ℕ) → from + 2 ≤ length s → clause_words (drop from s) ≡ Gives (drop from s)
words_at s from h =
    let long : 2 ≤ length (drop from s) = subst (λ (t : List Text). 2 ≤ length t) (sym (two_words s from h)) (omega arith) in
    two_or_more (drop from s) long

pub one_word : (s : List Text) (from : ℕ) → from + 1 ≡ length s → drop from s ≡ get_or s from [] ∷ []
one_word s from e = drop_more s from [] (omega arith) ∙ ap (λ (t : List Text). get_or s from [] ∷ t) (drop_all (from + 1) s (omega arith))

-- words of their own hold the clauses
few_held : (words : List Text) → 2 ≤ length words → held_clauses words ≡ []
few_held [] h = absurd (omega arith)
few_held (w ∷ []) h = absurd (omega arith)
few_held (w ∷ v ∷ ws) h = refl

pub none_held : (s : List Text) (from : ℕ) → from + 2 ≤ length s → held_clauses (drop from s) ≡ []
none_held s from h =
    let long : 2 ≤ length (drop from s) = subst (λ (t : List Text). 2 ≤ length t) (sym (two_words s from h)) (omega arith) in
    few_held (drop from s) long

-- the elements of the list that holds them
pub all_held : (s : List Text) (from : ℕ) (ts : List Text) → from + 1 ≡ length s → list_of (get_or s from []) ≡ Gives ts → held_clauses (drop from s) ≡ ts
all_held s from ts e g = ap held_clauses (one_word s from e) ∙ ap given_words g

-- what is pushed, by the words from the string on
pub pushed_from : (asked : Answer Asked) (m : Manner) (s : List Text) (string : ℕ) → asked ≡ Gives (m, drop string s) → pushed_for asked ≡ held_clauses (drop (string + 1) s)
pushed_from asked m s string e = ap pushed_for e ∙ ap held_clauses (drop-drop 1 string s)

-- ---- how the words of clauses end

ended_odd : {A : Type 0} (k : ℕ) (ws : List Text) (rest : Answer A) → length ws ≡ 2 * k + 1 → ended ws rest ≡ says SwitchPatternWithoutBody [] []
ended_odd k [] rest e = absurd (omega arith)
ended_odd k (p ∷ []) rest e = refl
ended_odd k (p ∷ b ∷ []) rest e = absurd (omega arith)
ended_odd zero (p ∷ b ∷ q ∷ ws) rest e = absurd (omega arith)
ended_odd (suc k) (p ∷ b ∷ q ∷ ws) rest e = ended_odd k (q ∷ ws) rest (omega arith)

ended_even : {A : Type 0} (k i : ℕ) (ws : List Text) (rest : Answer A) → i ≡ 2 * k → length ws ≡ suc (suc i) → ended ws rest ≡ cond (is_dash (get_or ws (suc i) [])) (says NoBodyForPattern (get_or ws i []) []) rest
ended_even k i [] rest e l = absurd (omega arith)
ended_even k i (p ∷ []) rest e l = absurd (omega arith)
ended_even zero zero (p ∷ b ∷ []) rest e l = refl
ended_even zero (suc i) (p ∷ b ∷ []) rest e l = absurd (omega arith)
ended_even (suc k) zero (p ∷ b ∷ []) rest e l = absurd (omega arith)
ended_even (suc k) (suc i) (p ∷ b ∷ []) rest e l = absurd (omega arith)
ended_even zero i (p ∷ b ∷ q ∷ ws) rest e l = absurd (omega arith)
ended_even (suc k) zero (p ∷ b ∷ q ∷ ws) rest e l = absurd (omega arith)
ended_even (suc k) (suc zero) (p ∷ b ∷ q ∷ ws) rest e l = absurd (omega arith)
ended_even (suc k) (suc (suc i)) (p ∷ b ∷ q ∷ ws) rest e l = ended_even k i (q ∷ ws) rest (omega arith) (omega arith)

-- the words from a place on
pub odd_words : {A : Type 0} (s : List Text) (from : ℕ) (rest : Answer A) → from ≤ length s → (k : ℕ) → length s - from ≡ 2 * k + 1 → ended (drop from s) rest ≡ says SwitchPatternWithoutBody [] []
odd_words s from rest h k e = ended_odd k (drop from s) rest (length-drop from s ∙ e)

pub even_words : {A : Type 0} (s : List Text) (from : ℕ) (rest : Answer A) → from < length s → (k : ℕ) → length s - from ≡ 2 * k + 2 → ended (drop from s) rest ≡ cond (is_dash (get_or s (length s - 1) [])) (says NoBodyForPattern (get_or s (length s - 2) []) []) rest
even_words s from rest h k e =
    let n = 2 * k in
    let last : from + suc n ≡ length s - 1 = omega arith in
    let before : from + n ≡ length s - 2 = omega arith in
    let long : length (drop from s) ≡ suc (suc n) = omega (arith, length-drop from s) in
    ended_even k n (drop from s) rest refl long
    ∙ ap (λ (x : Text). cond (is_dash x) (says NoBodyForPattern (get_or (drop from s) n []) []) rest) (get_or-drop from s (suc n) [] ∙ ap (λ (i : ℕ). get_or s i []) last)
    ∙ ap (λ (x : Text). cond (is_dash (get_or s (length s - 1) [])) (says NoBodyForPattern x []) rest) (get_or-drop from s n [] ∙ ap (λ (i : ℕ). get_or s i []) before)

-- the message has no part
pub no_part : {A : Type 0} (w : Text) → says {A = A} SwitchPatternWithoutBody w [] ≡ says SwitchPatternWithoutBody [] []
no_part w = refl

few : (call : Text) (ws : List Text) → length ws < 2 → row_switch call ws ≡ wrong_count call usage
few call [] h = refl
few call (w ∷ []) h = refl
few call (w ∷ v ∷ ws) h = absurd (omega arith)

pub few_words : (call : Text) (s : List Text) (n : ℕ) → n < 2 → n ≤ length s → row_switch call (top n s) ≡ wrong_count call usage
few_words call s n h l = few call (top n s) (omega (arith, length-drop (length s - n) s))

-- ---- clauses, from the last one up

body_by : (d : Bool) (s : List Text) (p body next count : ℕ) (found : Text) → next ≡ cond d body (p + 1) → (0 < count → get_or s body [] ≡ found) → (count ≡ 0 → d ≡ false) → get_or s next [] ≡ cond d found (get_or s (p + 1) [])
body_by false s p body next count found f g h = ap (λ (i : ℕ). get_or s i []) f
body_by true s p body next zero found f g h = absurd (let no : true ≡ false = h refl in cc)
body_by true s p body next (suc count) found f g h = ap (λ (i : ℕ). get_or s i []) f ∙ g (omega arith)

clause_words_at : (s : List Text) (p : ℕ) → p + 2 ≤ length s → drop p s ≡ get_or s p [] ∷ get_or s (p + 1) [] ∷ drop (p + 2) s
clause_words_at s p l =
    let two : p + 1 + 1 ≡ p + 2 = omega arith in
    two_words s p l ∙ ap (λ (i : ℕ). get_or s p [] ∷ get_or s (p + 1) [] ∷ drop i s) two

-- the body of the clause that stands before those that were read
pub body_is : (d : Bool) (s : List Text) (p body next count : ℕ) → d ≡ is_dash (get_or s (p + 1) []) → next ≡ cond d body (p + 1) → (0 < count → get_or s body [] ≡ next_body (drop (p + 2) s)) → (count ≡ 0 → d ≡ false) → p + 2 ≤ length s → get_or s next [] ≡ next_body (drop p s)
body_is d s p body next count e f g h l =
    body_by d s p body next count (next_body (drop (p + 2) s)) f g h
    ∙ ap (λ (b : Bool). cond b (next_body (drop (p + 2) s)) (get_or s (p + 1) [])) e
    ∙ sym (ap next_body (clause_words_at s p l))

pairs_of : (p b : Text) (ws words : List Text) → words ≡ p ∷ b ∷ ws → pairs words ≡ (p, next_body words) ∷ pairs ws
pairs_of p b ws words e = ap pairs e ∙ ap (λ (t : List Text). (p, next_body t) ∷ pairs ws) (sym e)

-- that clause, and those behind it
pub pairs_at : (s : List Text) (p : ℕ) → p + 2 ≤ length s → pairs (drop p s) ≡ (get_or s p [], next_body (drop p s)) ∷ pairs (drop (p + 2) s)
pairs_at s p l = pairs_of (get_or s p []) (get_or s (p + 1) []) (drop (p + 2) s) (drop p s) (clause_words_at s p l)
