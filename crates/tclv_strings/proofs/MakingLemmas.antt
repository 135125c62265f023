-- Laws of texts that are written anew.
use Rattle.std.proofs.Common.{◌≡◌, ℕ, zero, suc, ◌+◌, ◌-◌, ◌<◌, ◌≤◌, List, [], ◌∷◌, ◌++◌, length, take, drop, get_or, reverse, Result, refl, sym, ap, subst, ◌∙◌, append-nil, append_assoc, add-one, arith, length-drop}
use Rattle.std.specs.List.{concat}
use Rattle.std.proofs.lemmas.List.{take_more, get_or-drop, drop_more, drop_all, reverse-append}
use Rattle.std.proofs.lemmas.List.Folds.{concat-append}
use Rattle.std.specs.Prelude.{OnOk}
use Rattle.std.specs.Char.{IsScalar}
use Rattle.std.specs.Str.{chars}
use Rattle.std.proofs.lemmas.Str.{chars-nil, chars_past_char, IsUtf8-encode}
use lib.Utf8.{encode}
use Rattle.tclv_strings.specs.Making.{copies}

-- copies
pub copies_none : (k : ℕ) (text : List ℕ) → text ≡ [] → copies k text ≡ []
copies_none zero text e = refl
copies_none (suc k) text e = ap (λ w. w ++ copies k text) e ∙ copies_none k text e

copies_suc : (k : ℕ) (text : List ℕ) → copies (suc k) text ≡ copies k text ++ text
copies_suc zero text = append-nil text
copies_suc (suc k) text = ap (λ t. text ++ t) (copies_suc k text) ∙ sym (append_assoc text (copies k text) text)

pub copies_more : (old new text : List ℕ) (k : ℕ) → old ≡ copies k text → new ≡ old ++ text → new ≡ copies (k + 1) text
copies_more old new text k e f = f ∙ ap (λ t. t ++ text) e ∙ sym (copies_suc k text) ∙ ap (λ m. copies m text) (sym (add-one k))

-- the words up to a place, and the one there
words_more : (s : List (List ℕ)) (from at : ℕ) → from ≤ at → at < length s → take (at + 1 - from) (drop from s) ≡ take (at - from) (drop from s) ++ get_or s at [] ∷ []
words_more s from at h l =
    let k : at + 1 - from ≡ at - from + 1 = omega arith in
    let e : from + (at - from) ≡ at = omega arith in
    ap (λ m. take m (drop from s)) k ∙ take_more (drop from s) (at - from) [] (omega (arith, length-drop from s))
    ∙ ap (λ x. take (at - from) (drop from s) ++ x ∷ []) (get_or-drop from s (at - from) [] ∙ ap (λ m. get_or s m []) e)

pub no_text : (s : List (List ℕ)) (from : ℕ) → concat (take (from - from) (drop from s)) ≡ []
no_text s from = let e : from - from ≡ 0 = omega arith in ap (λ k. concat (take k (drop from s))) e

pub joined_more : (s cur : List (List ℕ)) (old new : List ℕ) (from at : ℕ) → cur ≡ s → from ≤ at → at < length s → old ≡ concat (take (at - from) (drop from s)) → new ≡ old ++ get_or cur at [] → new ≡ concat (take (at + 1 - from) (drop from s))
joined_more s cur old new from at e h l p q =
    let w = get_or s at [] in
    let before = take (at - from) (drop from s) in
    q ∙ ap (λ x. old ++ get_or x at []) e ∙ ap (λ x. x ++ w) p
    ∙ ap (λ x. concat before ++ x) (sym (append-nil w)) ∙ sym (concat-append before (w ∷ [])) ∙ ap concat (sym (words_more s from at h l))

-- characters backwards
pub backwards_none : (cs : List ℕ) → reverse (drop (length cs - 0) cs) ≡ []
backwards_none cs = ap reverse (drop_all (length cs - 0) cs (omega arith))

pub backwards_more : (cs old new : List ℕ) (k c : ℕ) → k < length cs → old ≡ reverse (drop (length cs - k) cs) → new ≡ old ++ c ∷ [] → c ≡ get_or cs (length cs - 1 - k) 0 → new ≡ reverse (drop (length cs - (k + 1)) cs)
backwards_more cs old new k c h e f g =
    let at = length cs - (k + 1) in
    let rest = drop (at + 1) cs in
    let one : at + 1 ≡ length cs - k = omega arith in
    let same : length cs - 1 - k ≡ at = omega arith in
    let here : drop at cs ≡ get_or cs at 0 ∷ rest = drop_more cs at 0 (omega arith) in
    f ∙ ap (λ x. x ++ c ∷ []) (e ∙ ap (λ m. reverse (drop m cs)) (sym one)) ∙ ap (λ x. reverse rest ++ x ∷ []) (g ∙ ap (λ m. get_or cs m 0) same)
    ∙ sym (ap reverse here ∙ reverse-append (get_or cs at 0 ∷ []) rest)

pub backwards_all : (cs : List ℕ) (k : ℕ) → length cs ≤ k → reverse (drop (length cs - k) cs) ≡ reverse cs
backwards_all cs k h = let e : length cs - k ≡ 0 = omega arith in ap (λ m. reverse (drop m cs)) e

-- the text of a character
pub char_points : (c : ℕ) → IsScalar c → chars (encode c) ≡ c ∷ []
char_points c h = chars_past_char (encode c) [] c (IsUtf8-encode c h) (sym (append-nil (encode c))) ∙ ap (λ x. c ∷ x) chars-nil

pub text_as : {E : Type 0} (r : Result (Unit {0}) E) (old new t u : List ℕ) → u ≡ t → OnOk r (new ≡ old ++ u) → OnOk r (new ≡ old ++ t)
text_as r old new t u e = subst (λ x. OnOk r (new ≡ old ++ x)) e
