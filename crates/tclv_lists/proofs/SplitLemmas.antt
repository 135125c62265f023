-- Laws of texts that are split.
use Rattle.std.proofs.Common.{◌≡◌, ℕ, ◌<◌, Bool, true, false, cond, List, [], ◌∷◌, ◌++◌, length, map, Result, Ok, Err, refl, sym, ap, ◌∙◌, subst, arith, append-nil, append_assoc}
use Rattle.std.specs.Prelude.{OnOk}
use Rattle.std.specs.Char.{IsScalar}
use Rattle.std.specs.Str.{chars}
use Rattle.std.specs.List.{slice_split, onto_first}
use Rattle.std.proofs.lemmas.Bool.{cond-true, cond-false}
use Rattle.std.proofs.lemmas.List.{length-append}
use Rattle.std.proofs.lemmas.List.Splits.{length-slice_split}
use Rattle.std.proofs.lemmas.Str.{chars-nil, chars_past_char, IsUtf8-encode}
use lib.Utf8.{encode}
use Rattle.tclv_value.specs.View.{View}
use Rattle.tclv_value.specs.Changes.{Pushes}
use Rattle.tclv_lists.specs.Joining.{single, is_one_of, split_parts}

-- the lists with a unit behind the last
abbrev onto_last : ℕ → List (List ℕ) → List (List ℕ)
onto_last c [] = []
onto_last c (t ∷ []) = (t ++ c ∷ []) ∷ []
onto_last c (t ∷ u ∷ us) = t ∷ onto_last c (u ∷ us)

last_behind : (c : ℕ) (t : List ℕ) (s : List (List ℕ)) → 0 < length s → onto_last c (t ∷ s) ≡ t ∷ onto_last c s
last_behind c t [] h = absurd (omega arith)
last_behind c t (u ∷ us) h = refl

last_of_more : (c : ℕ) (s ts : List (List ℕ)) → 0 < length ts → onto_last c (s ++ ts) ≡ s ++ onto_last c ts
last_of_more c [] ts h = refl
last_of_more c (t ∷ s) ts h = last_behind c t (s ++ ts) (omega (arith, length-append s ts)) ∙ ap (λ x. t ∷ x) (last_of_more c s ts h)

first_of_more : (x : ℕ) (s ts : List (List ℕ)) → 0 < length s → onto_first x (s ++ ts) ≡ onto_first x s ++ ts
first_of_more x [] ts h = absurd (omega arith)
first_of_more x (t ∷ s) ts h = refl

first_and_last : (x c : ℕ) (s : List (List ℕ)) → 0 < length s → onto_first x (onto_last c s) ≡ onto_last c (onto_first x s)
first_and_last x c [] h = absurd (omega arith)
first_and_last x c (t ∷ []) h = refl
first_and_last x c (t ∷ u ∷ us) h = refl

module _ (p : ℕ → Bool) where
  some_parts : (xs : List ℕ) → 0 < length (slice_split p xs)
  some_parts xs = omega (arith, length-slice_split p xs)

  -- a separator behind a text, and another character
  split_end : (c : ℕ) → p c ≡ true → (xs : List ℕ) → slice_split p (xs ++ c ∷ []) ≡ slice_split p xs ++ [] ∷ []
  split_end c h [] = cond-true _ _ _ h
  split_end c h (x ∷ xs) =
      let s = slice_split p xs in
      ap (λ y. cond (p x) ([] ∷ y) (onto_first x y)) (split_end c h xs)
      ∙ (elim (p x) as (λ b. cond b ([] ∷ (s ++ [] ∷ [])) (onto_first x (s ++ [] ∷ [])) ≡ cond b ([] ∷ s) (onto_first x s) ++ [] ∷ []) [
        | true ↦ refl
        | false ↦ first_of_more x s ([] ∷ []) (some_parts xs)
      ])

  split_more : (c : ℕ) → p c ≡ false → (xs : List ℕ) → slice_split p (xs ++ c ∷ []) ≡ onto_last c (slice_split p xs)
  split_more c h [] = cond-false _ _ _ h
  split_more c h (x ∷ xs) =
      let s = slice_split p xs in
      ap (λ y. cond (p x) ([] ∷ y) (onto_first x y)) (split_more c h xs)
      ∙ (elim (p x) as (λ b. cond b ([] ∷ onto_last c s) (onto_first x (onto_last c s)) ≡ onto_last c (cond b ([] ∷ s) (onto_first x s))) [
        | true ↦ sym (last_behind c [] s (some_parts xs))
        | false ↦ first_and_last x c s (some_parts xs)
      ])

  -- one more character: it ends the part, or goes on with it
  pub part_ended : {E : Type 0} (r : Result (Unit {0}) E) (stack new : List (List ℕ)) (part next : List ℕ) (c : ℕ) → p c ≡ true → OnOk r (new ≡ stack ++ part ∷ []) → OnOk r (next ≡ []) →
      OnOk r ((s : List (List ℕ)) → (cs : List ℕ) → s ++ slice_split p cs ≡ stack ++ part ∷ [] → s ++ slice_split p (cs ++ c ∷ []) ≡ new ++ next ∷ [])
  part_ended (Ok x) stack new part next c h f g = λ s cs e.
      ap (λ y. s ++ y) (split_end c h cs) ∙ sym (append_assoc s (slice_split p cs) ([] ∷ [])) ∙ ap (λ y. y ++ [] ∷ []) (e ∙ sym f) ∙ ap (λ t. new ++ t ∷ []) (sym g)
  part_ended (Err x) stack new part next c h f g = tt

  pub part_continued : {E : Type 0} (r : Result (Unit {0}) E) (stack : List (List ℕ)) (part next : List ℕ) (c : ℕ) → p c ≡ false → OnOk r (next ≡ part ++ c ∷ []) →
      OnOk r ((s : List (List ℕ)) → (cs : List ℕ) → s ++ slice_split p cs ≡ stack ++ part ∷ [] → s ++ slice_split p (cs ++ c ∷ []) ≡ stack ++ next ∷ [])
  part_continued (Ok x) stack part next c h g = λ s cs e.
      ap (λ y. s ++ y) (split_more c h cs) ∙ sym (last_of_more c s (slice_split p cs) (some_parts cs)) ∙ ap (onto_last c) e ∙ last_of_more c stack (part ∷ []) (omega arith) ∙ ap (λ t. stack ++ t ∷ []) (sym g)
  part_continued (Err x) stack part next c h g = tt

  -- the last part is pushed
  pub parts_done : {E : Type 0} (r : Result (Unit {0}) E) (s : List (List ℕ)) (mid new : View) (t part xs cs : List ℕ) → OnOk r (Pushes mid t new) → t ≡ part → s ++ slice_split p xs ≡ mid.stack ++ part ∷ [] → xs ≡ cs → OnOk r (new.stack ≡ s ++ slice_split p cs)
  parts_done (Ok x) s mid new t part xs cs q e f g = q.stack ∙ ap (λ y. mid.stack ++ y ∷ []) e ∙ sym f ∙ ap (λ y. s ++ slice_split p y) g
  parts_done (Err x) s mid new t part xs cs q e f g = tt

pub all_yielded : (xs cs ds : List ℕ) → map (λ c. c) xs ≡ cs → cs ≡ ds → xs ≡ ds
all_yielded xs cs ds e f = sym (same xs) ∙ e ∙ f where
  same : (ys : List ℕ) → map (λ c. c) ys ≡ ys
  same [] = refl
  same (y ∷ ys) = ap (λ x. y ∷ x) (same ys)

-- the code points of a character's bytes
pub char_points : (c : ℕ) → IsScalar c → chars (encode c) ≡ c ∷ []
char_points c h = chars_past_char (encode c) [] c (IsUtf8-encode c h) (sym (append-nil (encode c))) ∙ ap (λ x. c ∷ x) chars-nil

-- the parts by cases
pub parts_of_none : (separators : List ℕ) → split_parts separators [] ≡ []
parts_of_none [] = refl
parts_of_none (s ∷ separators) = refl

pub parts_without : (text : List ℕ) → split_parts [] text ≡ map single text
parts_without [] = refl
parts_without (c ∷ text) = refl

pub parts_between : (separators text : List ℕ) → 0 < length separators → 0 < length text → split_parts separators text ≡ slice_split (is_one_of separators) text
parts_between [] text h k = absurd (omega arith)
parts_between (s ∷ separators) [] h k = absurd (omega arith)
parts_between (s ∷ separators) (c ∷ text) h k = refl

-- texts that are known by another name
pub stack_as : {E : Type 0} (r : Result (Unit {0}) E) (s new : List (List ℕ)) (ts us : List (List ℕ)) → us ≡ ts → OnOk r (new ≡ s ++ ts) → OnOk r (new ≡ s ++ us)
stack_as r s new ts us e = subst (λ x. OnOk r (new ≡ s ++ x)) (sym e)

pub text_as : {E : Type 0} (r : Result (Unit {0}) E) (old new t u : List ℕ) → u ≡ t → OnOk r (new ≡ old ++ u) → OnOk r (new ≡ old ++ t)
text_as r old new t u e = subst (λ x. OnOk r (new ≡ old ++ x)) e
