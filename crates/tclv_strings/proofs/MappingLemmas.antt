-- Laws of `map`: keys in front of a text, and what stands for them.
use Rattle.std.proofs.Common.{◌≡◌, ◌≢◌, ℕ, zero, suc, ◌+◌, ◌-◌, ◌%◌, ◌<◌, ◌≤◌, Bool, true, false, cond, ◌&&◌, List, [], ◌∷◌, ◌++◌, length, take, drop, get_or, refl, sym, ap, ◌∙◌, subst, arith, append_assoc}
use Rattle.std.specs.Prelude.{Option, Some, None}
use Rattle.std.specs.Str.{bytes_eq}
use Rattle.std.proofs.lemmas.Bool.{eq-eqb, ne_eqb}
use Rattle.std.proofs.lemmas.List.{drop_more}
use Rattle.tclv_text.specs.Globs.{folded, folded_char}
use Rattle.tclv_model.specs.Rows.{Answer, Gives, says, wrong_count}
use Rattle.tclv_model.specs.Usages.{usage_of}
use Rattle.tclv_model.specs.declared.usages.Usage.TheVariants as command
use Rattle.tclv_model.specs.declared.messages.MessageId.TheVariants.{UnbalancedCharacterMap}
use Rattle.tclv_strings.specs.Mapping.{mapping_given, stands_first, KeyThere, first_key, HasKey, put_for, mapped_behind, mapped_text, row_map}

-- What follows behind n code points is what the rest is mapped to.
pub behind_points : (nocase : Bool) (ms : List (List ℕ)) (n : ℕ) (t : List ℕ) → mapped_behind nocase ms n t ≡ mapped_text nocase ms (drop n t)
behind_points nocase ms zero t = refl
behind_points nocase ms (suc n) [] = refl
behind_points nocase ms (suc n) (c ∷ t) = behind_points nocase ms n t

-- no key fits
pub mapped_none : (nocase : Bool) (ms : List (List ℕ)) (c : ℕ) (t : List ℕ) → first_key nocase ms (c ∷ t) ≡ None → mapped_text nocase ms (c ∷ t) ≡ c ∷ mapped_text nocase ms t
mapped_none nocase ms c t e = ap (λ (r : Option KeyThere). put_for r c (λ n. mapped_behind nocase ms n t)) e

drop_first : (n c : ℕ) (t : List ℕ) → 0 < n → drop (n - 1) t ≡ drop n (c ∷ t)
drop_first zero c t h = absurd (omega arith)
drop_first (suc n) c t h = let e : suc n - 1 ≡ n = omega arith in ap (λ k. drop k t) e

-- a key fits
pub mapped_key : (nocase : Bool) (ms : List (List ℕ)) (c : ℕ) (t value rest : List ℕ) → HasKey (first_key nocase ms (c ∷ t)) value (c ∷ t) rest → mapped_text nocase ms (c ∷ t) ≡ value ++ mapped_text nocase ms rest
mapped_key nocase ms c t value rest k =
    ap (λ (r : Option KeyThere). put_for r c (λ n. mapped_behind nocase ms n t)) k.is
    ∙ ap (λ x. value ++ x) (behind_points nocase ms (k.count - 1) t ∙ ap (mapped_text nocase ms) (drop_first k.count c t k.some ∙ sym k.behind))

-- a text is made longer by what stands for the first part of another one
pub added_none : (nocase : Bool) (ms : List (List ℕ)) (c : ℕ) (t whole old new : List ℕ) → whole ≡ c ∷ t → first_key nocase ms whole ≡ None → new ≡ old ++ c ∷ [] → new ++ mapped_text nocase ms t ≡ old ++ mapped_text nocase ms whole
added_none nocase ms c t whole old new w e f =
    ap (λ x. x ++ mapped_text nocase ms t) f ∙ append_assoc old (c ∷ []) (mapped_text nocase ms t)
    ∙ ap (λ x. old ++ x) (sym (ap (mapped_text nocase ms) w ∙ mapped_none nocase ms c t (ap (first_key nocase ms) (sym w) ∙ e)))

pub added_key : (nocase : Bool) (ms : List (List ℕ)) (c : ℕ) (t whole value rest old new : List ℕ) → whole ≡ c ∷ t → HasKey (first_key nocase ms whole) value whole rest → new ≡ old ++ value → new ++ mapped_text nocase ms rest ≡ old ++ mapped_text nocase ms whole
added_key nocase ms c t whole value rest old new w k f =
    ap (λ x. x ++ mapped_text nocase ms rest) f ∙ append_assoc old value (mapped_text nocase ms rest)
    ∙ ap (λ x. old ++ x) (sym (ap (mapped_text nocase ms) w ∙ mapped_key nocase ms c t value rest (subst (λ x. HasKey (first_key nocase ms x) value x rest) w k)))

-- The first key of a mapping from a place on.
pub key_here : (nocase : Bool) (key value : List ℕ) (more : List (List ℕ)) (t : List ℕ) → stands_first nocase key t ≡ true → first_key nocase (key ∷ value ∷ more) t ≡ Some (record { taken = length key; value = value })
key_here nocase key value more t e = ap (λ (b : Bool). let r : Option KeyThere = cond b (Some (record { taken = length key; value = value })) (first_key nocase more t) in r) e

pub key_later : (nocase : Bool) (key value : List ℕ) (more : List (List ℕ)) (t : List ℕ) → stands_first nocase key t ≡ false → first_key nocase (key ∷ value ∷ more) t ≡ first_key nocase more t
key_later nocase key value more t e = ap (λ (b : Bool). let r : Option KeyThere = cond b (Some (record { taken = length key; value = value })) (first_key nocase more t) in r) e

pub key_none : (nocase : Bool) (ms : List (List ℕ)) (t : List ℕ) → length ms ≤ 1 → first_key nocase ms t ≡ None
key_none nocase [] t h = refl
key_none nocase (k ∷ []) t h = refl
key_none nocase (k ∷ v ∷ ms) t h = absurd (omega arith)

-- an empty key stands nowhere
pub stands_empty : (nocase : Bool) (key t : List ℕ) → key ≡ [] → stands_first nocase key t ≡ false
stands_empty nocase key t e = ap (λ k. stands_first nocase k t) e

-- Whether a front of a text is a key, from the left.
abbrev pub is_front : Bool → List ℕ → List ℕ → Bool
is_front nocase key t = bytes_eq (folded nocase (take (length key) t)) (folded nocase key)

pub stands_some : (nocase : Bool) (key t : List ℕ) → 0 < length key → stands_first nocase key t ≡ is_front nocase key t
stands_some nocase [] t h = absurd (omega arith)
stands_some nocase (k ∷ key) t h = refl

pub map_count : (call : List ℕ) (words : List (List ℕ)) → length words ≢ 3 → length words ≢ 4 → row_map call words ≡ wrong_count call (usage_of command.StringMap)
map_count call [] h k = refl
map_count call (a ∷ []) h k = refl
map_count call (a ∷ b ∷ []) h k = refl
map_count call (a ∷ b ∷ c ∷ []) h k = absurd (h refl)
map_count call (a ∷ b ∷ c ∷ d ∷ []) h k = absurd (k refl)
map_count call (a ∷ b ∷ c ∷ d ∷ e ∷ ws) h k = refl

long : (k : ℕ) (key : List ℕ) → length (k ∷ key) ≡ suc (length key)
long k key = omega arith

pub front_on : (nocase : Bool) (k c : ℕ) (key t : List ℕ) → folded_char nocase c ≡ folded_char nocase k → is_front nocase (k ∷ key) (c ∷ t) ≡ is_front nocase key t
front_on nocase k c key t e =
    ap (λ n. bytes_eq (folded nocase (take n (c ∷ t))) (folded nocase (k ∷ key))) (long k key)
    ∙ ap (λ b. b && is_front nocase key t) (eq-eqb (folded_char nocase c) (folded_char nocase k) e)

pub front_off : (nocase : Bool) (k c : ℕ) (key t : List ℕ) → folded_char nocase c ≢ folded_char nocase k → is_front nocase (k ∷ key) (c ∷ t) ≡ false
front_off nocase k c key t e =
    ap (λ n. bytes_eq (folded nocase (take n (c ∷ t))) (folded nocase (k ∷ key))) (long k key)
    ∙ ap (λ b. b && is_front nocase key t) (ne_eqb (folded_char nocase c) (folded_char nocase k) e)

pub front_short : (nocase : Bool) (k : ℕ) (key : List ℕ) → is_front nocase (k ∷ key) [] ≡ false
front_short nocase k key = ap (λ n. bytes_eq (folded nocase (take n [])) (folded nocase (k ∷ key))) (long k key)

pub front_done : (nocase : Bool) (t : List ℕ) → is_front nocase [] t ≡ true
front_done nocase t = refl

pub drop_on : (k c : ℕ) (key t : List ℕ) → drop (length (k ∷ key)) (c ∷ t) ≡ drop (length key) t
drop_on k c key t = ap (λ n. drop n (c ∷ t)) (long k key)

-- The keys behind a key and its value.
pub two_on : (ms : List (List ℕ)) (k : ℕ) → k + 1 < length ms → drop k ms ≡ get_or ms k [] ∷ get_or ms (k + 1) [] ∷ drop (k + 2) ms
two_on ms k h =
    let two : k + 1 + 1 ≡ k + 2 = omega arith in
    drop_more ms k [] (omega arith) ∙ ap (λ r. get_or ms k [] ∷ r) (drop_more ms (k + 1) [] h ∙ ap (λ n. get_or ms (k + 1) [] ∷ drop n ms) two)

-- a mapping with an even number of elements, and with an odd one
pub given_even : (ts : List (List ℕ)) → length ts % 2 ≡ 0 → mapping_given ts ≡ Gives ts
given_even ts e = ap (λ (b : Bool). let a : Answer (List (List ℕ)) = cond b (Gives ts) (says UnbalancedCharacterMap [] []) in a) (eq-eqb (length ts % 2) 0 e)

pub given_odd : (ts : List (List ℕ)) → length ts % 2 ≢ 0 → mapping_given ts ≡ says UnbalancedCharacterMap [] []
given_odd ts e = ap (λ (b : Bool). let a : Answer (List (List ℕ)) = cond b (Gives ts) (says UnbalancedCharacterMap [] []) in a) (ne_eqb (length ts % 2) 0 e)
