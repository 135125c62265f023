-- Laws of joined texts.
use Rattle.std.proofs.Common.{◌≡◌, ℕ, zero, suc, ◌+◌, ◌-◌, ◌<◌, ◌≤◌, Bool, true, false, cond, List, [], ◌∷◌, ◌++◌, length, get_or, take, drop, refl, sym, ap, ◌∙◌, subst, arith, append-nil, append_assoc, map, filter, eqb, Result, Ok, Err}
use Rattle.std.specs.Prelude.{OnOk}
use Rattle.std.specs.Prelude.{codes}
use Rattle.std.specs.Str.{chars}
use Rattle.std.proofs.lemmas.List.{map-append, length-map, length-append, take_more, length-take-le, get_or_append_left, get_or-append-add, get_or-drop, length-drop}
use Rattle.std.proofs.lemmas.List.Elements.{filter-append}
use Rattle.std.proofs.lemmas.Bool.{eqb-true, false≢true, cond-false, ne_eqb}
use Rattle.std.proofs.lemmas.Str.{encodes-chars}
use lib.Utf8.{encodes}
use Rattle.tclv_text.specs.Texts.{IsText, AppendsText}
use Rattle.tclv_text.specs.Lists.{ListFlaw, MissingBrace, MissingQuote, TextAfterBrace, TextAfterQuote}
use Rattle.tclv_text.proofs.TextLemmas.{text_append, chars_append}
use Rattle.tclv_model.specs.Rows.{Gives}
use Rattle.tclv_model.specs.Values.{list_read}
use Rattle.tclv_text.proofs.CursorLemmas.{chars-empty}
use Rattle.tclv_lists.specs.Joining.{behind, joined, has_characters, spaced, concatenated, trimmed}

behind_more : (separator t : List ℕ) (ts : List (List ℕ)) → behind separator (ts ++ t ∷ []) ≡ behind separator ts ++ (separator ++ t)
behind_more separator t [] = ap (λ x. separator ++ x) (append-nil t)
behind_more separator t (u ∷ ts) =
    ap (λ x. separator ++ (u ++ x)) (behind_more separator t ts)
    ∙ ap (λ x. separator ++ x) (sym (append_assoc u (behind separator ts) (separator ++ t)))
    ∙ sym (append_assoc separator (u ++ behind separator ts) (separator ++ t))

-- one more text, as the first, and behind others
pub joined_first : (separator t : List ℕ) (ts : List (List ℕ)) → ts ≡ [] → joined separator (ts ++ t ∷ []) ≡ t
joined_first separator t ts e = ap (λ x. joined separator (x ++ t ∷ [])) e ∙ append-nil t

pub joined_more : (separator t : List ℕ) (ts : List (List ℕ)) → 0 < length ts → joined separator (ts ++ t ∷ []) ≡ (joined separator ts ++ separator) ++ t
joined_more separator t [] h = absurd (omega arith)
joined_more separator t (u ∷ ts) h =
    ap (λ x. u ++ x) (behind_more separator t ts)
    ∙ sym (append_assoc u (behind separator ts) (separator ++ t))
    ∙ sym (append_assoc (u ++ behind separator ts) separator t)

-- texts with characters
none_shown : (ts : List (List ℕ)) → spaced ts ≡ [] → filter has_characters ts ≡ []
none_shown [] e = refl
none_shown ([] ∷ ts) e = none_shown ts e
none_shown ((c ∷ t) ∷ ts) e = absurd (cc)

some_shown : (us : List (List ℕ)) → 0 < length (joined (codes " ") us) → 0 < length us
some_shown [] h = absurd (omega arith)
some_shown (u ∷ us) h = omega arith

spaced_none : (t : List ℕ) (ts : List (List ℕ)) → t ≡ [] → spaced (ts ++ t ∷ []) ≡ spaced ts
spaced_none t ts e = ap (λ x. spaced (ts ++ x ∷ [])) e ∙ ap (joined (codes " ")) (filter-append has_characters ts ([] ∷ []) ∙ append-nil (filter has_characters ts))

spaced_with : (t : List ℕ) (ts : List (List ℕ)) → 0 < length t → spaced (ts ++ t ∷ []) ≡ joined (codes " ") (filter has_characters ts ++ t ∷ [])
spaced_with [] ts h = absurd (omega arith)
spaced_with (c ∷ t) ts h = ap (joined (codes " ")) (filter-append has_characters ts ((c ∷ t) ∷ []))

pub added_none : (old new t : List ℕ) → t ≡ [] → new ≡ old → (ts : List (List ℕ)) → old ≡ spaced ts → new ≡ spaced (ts ++ t ∷ [])
added_none old new t e f ts h = f ∙ h ∙ sym (spaced_none t ts e)

pub added_first : (old new t : List ℕ) → 0 < length t → old ≡ [] → new ≡ old ++ t → (ts : List (List ℕ)) → old ≡ spaced ts → new ≡ spaced (ts ++ t ∷ [])
added_first old new t l e f ts h =
    f ∙ ap (λ x. x ++ t) e ∙ sym (spaced_with t ts l ∙ joined_first (codes " ") t (filter has_characters ts) (none_shown ts (sym h ∙ e)))

pub added_behind : (old new t : List ℕ) → 0 < length t → 0 < length old → new ≡ (old ++ codes " ") ++ t → (ts : List (List ℕ)) → old ≡ spaced ts → new ≡ spaced (ts ++ t ∷ [])
added_behind old new t l o f ts h =
    let some : 0 < length (spaced ts) = omega (arith, ap length h) in
    f ∙ ap (λ x. (x ++ codes " ") ++ t) h ∙ sym (spaced_with t ts l ∙ joined_more (codes " ") t (filter has_characters ts) (some_shown (filter has_characters ts) some))

-- a text has characters where it has bytes
pub no_points : (bs : List ℕ) → length bs ≡ 0 → chars bs ≡ []
no_points bs e = chars-empty bs e

pub some_points : (bs : List ℕ) → IsText bs → 0 < length bs → 0 < length (chars bs)
some_points bs t h = has (chars bs) (encodes-chars bs t.utf8) where
  has : (cs : List ℕ) → encodes cs ≡ bs → 0 < length cs
  has [] e = absurd (omega (arith, ap length e))
  has (c ∷ cs) e = omega arith

-- the words up to a place, and the one there
pub words_more : (s : List (List ℕ)) (from at : ℕ) → from ≤ at → at < length s → take (at + 1 - from) (drop from s) ≡ take (at - from) (drop from s) ++ get_or s at [] ∷ []
words_more s from at h l =
    let k : at + 1 - from ≡ at - from + 1 = omega arith in
    let e : from + (at - from) ≡ at = omega arith in
    ap (λ m. take m (drop from s)) k ∙ take_more (drop from s) (at - from) [] (omega (arith, length-drop from s))
    ∙ ap (λ x. take (at - from) (drop from s) ++ x ∷ []) (get_or-drop from s (at - from) [] ∙ ap (λ m. get_or s m []) e)

-- one more word of `concat`
pub concatenated_more : (old new w t : List ℕ) → ((ts : List (List ℕ)) → old ≡ spaced ts → new ≡ spaced (ts ++ w ∷ [])) → w ≡ trimmed t → (ts : List (List ℕ)) → old ≡ concatenated ts → new ≡ concatenated (ts ++ t ∷ [])
concatenated_more old new w t f e ts h = f (map trimmed ts) h ∙ ap (λ x. spaced (map trimmed ts ++ x ∷ [])) e ∙ ap spaced (sym (map-append trimmed ts (t ∷ [])))

-- what stands before, by the length of its bytes
pub added_after : {E : Type 0} (r : Result (Unit {0}) E) (old new more bs : List ℕ) → IsText more → 0 < length more → chars bs ≡ old → length bs ≡ 0 → OnOk r (new ≡ old ++ chars more) → OnOk r ((ts : List (List ℕ)) → old ≡ spaced ts → new ≡ spaced (ts ++ chars more ∷ []))
added_after (Ok x) old new more bs t l e z p = added_first old new (chars more) (some_points more t l) (sym e ∙ no_points bs z) p
added_after (Err e) old new more bs t l f z p = tt

pub added_on : {E : Type 0} (r : Result (Unit {0}) E) (old mid new more bs : List ℕ) → IsText more → 0 < length more → IsText bs → chars bs ≡ old → 0 < length bs → mid ≡ old ++ codes " " → OnOk r (new ≡ mid ++ chars more) → OnOk r ((ts : List (List ℕ)) → old ≡ spaced ts → new ≡ spaced (ts ++ chars more ∷ []))
added_on (Ok x) old mid new more bs t l b e z m p = added_behind old new (chars more) (some_points more t l) (omega (arith, some_points bs b z, ap length e)) (p ∙ ap (λ y. y ++ chars more) m)
added_on (Err e) old mid new more bs t l b f z m p = tt

-- an answer of `is_empty`
pub none_there : (n : ℕ) (b : Bool) → b ≡ eqb n 0 → b ≡ true → n ≡ 0
none_there n b e f = eqb-true n 0 (sym e ∙ f)

pub some_there : (n : ℕ) (b : Bool) → b ≡ eqb n 0 → b ≡ false → 0 < n
some_there zero b e f = absurd (false≢true (sym f ∙ e))
some_there (suc n) b e f = omega arith

-- words that are added one behind another
pub no_words_yet : (s : List (List ℕ)) (from : ℕ) → take (from - from) (drop from s) ≡ []
no_words_yet s from = let e : from - from ≡ 0 = omega arith in ap (λ k. take k (drop from s)) e

pub one_more_word : (s cur : List (List ℕ)) (old new : List ℕ) (from at : ℕ) (f : List (List ℕ) → List ℕ) → cur ≡ s → from ≤ at → at < length s → old ≡ f (take (at - from) (drop from s)) →
    ((ts : List (List ℕ)) → old ≡ f ts → new ≡ f (ts ++ get_or cur at [] ∷ [])) → new ≡ f (take (at + 1 - from) (drop from s))
one_more_word s cur old new from at f e h l p step =
    let ts = take (at - from) (drop from s) in
    step ts p ∙ ap (λ q. f (ts ++ get_or q at [] ∷ [])) e ∙ ap f (sym (words_more s from at h l))

-- Texts that are appended.
pub appended_text : (old new more t : List ℕ) → IsText more → new ≡ old ++ more → chars more ≡ t → AppendsText old new t
appended_text old new more t u e f o = (subst IsText (sym e) (text_append o u), ap chars e ∙ chars_append old more o ∙ ap (λ x. chars old ++ x) f)

pub appends_on : {E : Type 0} (r : Result (Unit {0}) E) (old mid new between t u : List ℕ) → IsText between → mid ≡ old ++ between → u ≡ chars between ++ t → OnOk r (AppendsText mid new t) → OnOk r (AppendsText old new u)
appends_on (Ok x) old mid new between t u s e f a = λ o.
    let m = appended_text old mid between (chars between) s e refl o in
    let n = a m.0 in
    (n.0, n.1 ∙ ap (λ y. y ++ t) m.1 ∙ append_assoc (chars old) (chars between) t ∙ ap (λ y. chars old ++ y) (sym f))
appends_on (Err x) old mid new between t u s e f a = tt

joined_next : (separator x : List ℕ) (ts : List (List ℕ)) (i : ℕ) → length ts ≡ i → joined separator ts ++ cond (eqb i 0) x (separator ++ x) ≡ joined separator (ts ++ x ∷ [])
joined_next separator x [] i e = ap (λ k. cond (eqb k 0) x (separator ++ x)) (sym e) ∙ sym (append-nil x)
joined_next separator x (t ∷ ts) i e =
    ap (λ y. joined separator (t ∷ ts) ++ y) (cond-false _ _ _ (ne_eqb i 0 (λ z. omega (arith, z, e))))
    ∙ sym (append_assoc (joined separator (t ∷ ts)) separator x) ∙ sym (joined_more separator x (t ∷ ts) (omega arith))

-- one more text is joined
pub join_more : {A : Type 0} (f : A → List ℕ) (separator : List ℕ) (items : List A) (old new : List ℕ) (i : ℕ) (d : A) → i < length items → IsText old → chars old ≡ joined separator (map f (take i items)) →
    AppendsText old new (cond (eqb i 0) (f (get_or items i d)) (separator ++ f (get_or items i d))) → IsText new × (chars new ≡ joined separator (map f (take (i + 1) items)))
join_more f separator items old new i d l t e a =
    let x = f (get_or items i d) in
    let ts = map f (take i items) in
    let p = a t in
    let all : map f (take (i + 1) items) ≡ ts ++ x ∷ [] = ap (map f) (take_more items i d l) ∙ map-append f (take i items) (get_or items i d ∷ []) in
    let len : length ts ≡ i = length-map (take i items) f ∙ length-take-le i items (omega arith) in
    (p.0, p.1 ∙ ap (λ y. y ++ cond (eqb i 0) x (separator ++ x)) e ∙ joined_next separator x ts i len ∙ ap (joined separator) (sym all))

-- a text that a list was read of is one
pub elements_given : (r : Result (List (List ℕ)) ListFlaw) (ts : List (List ℕ)) → list_read r ≡ Gives ts → r ≡ Ok ts
elements_given (Ok us) ts e = cc
elements_given (Err MissingBrace) ts e = absurd (cc)
elements_given (Err MissingQuote) ts e = absurd (cc)
elements_given (Err (TextAfterBrace x)) ts e = absurd (cc)
elements_given (Err (TextAfterQuote x)) ts e = absurd (cc)

-- a text and the one that was pushed on it
pub pushed_pair : (s mid : List (List ℕ)) (t : List ℕ) (height : ℕ) → 0 < length s → mid ≡ s ++ t ∷ [] → height ≡ length mid → (get_or mid (height - 2) [] ≡ get_or s (length s - 1) []) × (get_or mid (height - 1) [] ≡ t)
pushed_pair s mid t height h e f =
    let len = length-append s (t ∷ []) in
    let k : height - 2 ≡ length s - 1 = omega (arith, ap length e) in
    let j : height - 1 ≡ length s + 0 = omega (arith, ap length e) in (
      ap (λ q. get_or q (height - 2) []) e ∙ ap (λ m. get_or (s ++ t ∷ []) m []) k ∙ get_or_append_left s (t ∷ []) [] (length s - 1) (omega arith),
      ap (λ q. get_or q (height - 1) []) e ∙ ap (λ m. get_or (s ++ t ∷ []) m []) j ∙ get_or-append-add s (t ∷ []) 0 [],
    )
