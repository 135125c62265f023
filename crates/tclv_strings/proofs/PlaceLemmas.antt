-- Laws of places in a text: where its bytes are cut.
use Rattle.std.proofs.Common.{◌≡◌, ℕ, ◌+◌, ◌-◌, ◌<◌, List, ◌++◌, length, take, drop, refl, sym, ap, subst, ◌∙◌, arith, length-drop, drop-drop, take-add, append_assoc}
use Rattle.std.specs.Str.{chars}
use Rattle.std.proofs.lemmas.List.{take_rest}
use Rattle.std.proofs.lemmas.Str.{IsUtf8-nil, chars-nil}
use Rattle.tclv_text.specs.Texts.{IsText}
use Rattle.tclv_text.specs.Cuts.{IsCut}
use Rattle.tclv_text.proofs.TextLemmas.{text_append, chars_append}
use Rattle.tclv_text.proofs.CursorLemmas.{chars-short}
use Rattle.tclv_strings.specs.Places.{text_between, text_filled}

pub cut_none : {bs : List ℕ} → IsText bs → IsCut bs 0 0
cut_none {bs} t = record { within = omega arith; points = omega arith; front = record { utf8 = IsUtf8-nil }; rest = t; front_is = chars-nil; rest_is = refl }

-- something is left before the end
pub some_left : {bs : List ℕ} (n k : ℕ) → IsCut bs n k → k < length (chars bs) → 0 < length (drop n bs)
some_left {bs} n k c h =
    omega (arith, chars-short (drop n bs) c.rest, ap length c.rest_is, length-drop k (chars bs))

-- a cut behind a cut
pub cut_more : {bs : List ℕ} (n k m j : ℕ) → IsCut bs n k → IsCut (drop n bs) m j → IsCut bs (n + m) (k + j)
cut_more {bs} n k m j c d =
    let cs = chars bs in
    let front : take (n + m) bs ≡ take n bs ++ take m (drop n bs) = take-add n m bs in
    let rest : drop (n + m) bs ≡ drop m (drop n bs) = sym (drop-drop m n bs) in
    record {
      within = omega (arith, c.within, d.within, length-drop n bs);
      points = omega (arith, c.points, d.points, ap length c.rest_is, length-drop k cs);
      front = subst IsText (sym front) (text_append c.front d.front);
      rest = subst IsText (sym rest) d.rest;
      front_is = ap chars front ∙ chars_append (take n bs) (take m (drop n bs)) c.front ∙ ap (λ x. x ++ chars (take m (drop n bs))) c.front_is
          ∙ ap (λ x. take k cs ++ x) (d.front_is ∙ ap (take j) c.rest_is) ∙ sym (take-add k j cs);
      rest_is = ap chars rest ∙ d.rest_is ∙ ap (drop j) c.rest_is ∙ drop-drop j k cs;
    }

-- the rest of a text, as a slice of its bytes is
pub rest_is : (bs : List ℕ) (n : ℕ) → take (length bs - n) (drop n bs) ≡ drop n bs
rest_is bs n = take_rest bs n

pub rest_text : (bs : List ℕ) (n k : ℕ) → IsCut bs n k → IsText (take (length bs - n) (drop n bs))
rest_text bs n k c = subst IsText (sym (take_rest bs n)) c.rest

pub rest_some : (bs : List ℕ) (n k : ℕ) → IsCut bs n k → k < length (chars bs) → 0 < length (take (length bs - n) (drop n bs))
rest_some bs n k c h = subst (λ (t : List ℕ). 0 < length t) (sym (take_rest bs n)) (some_left n k c h)

-- a cut behind a cut, of such a slice
pub cut_on : (bs : List ℕ) (n k m j : ℕ) → IsCut bs n k → IsCut (take (length bs - n) (drop n bs)) m j → IsCut bs (n + m) (k + j)
cut_on bs n k m j c d = cut_more n k m j c (subst (λ (t : List ℕ). IsCut t m j) (take_rest bs n) d)

-- the part between two cuts
pub part_is : (bs rest : List ℕ) (n m from to : ℕ) → rest ≡ drop n bs → IsCut bs n from → IsCut rest m (to - from) → chars (take m rest) ≡ text_between from to (chars bs)
part_is bs rest n m from to e c d = d.front_is ∙ ap (λ (t : List ℕ). take (to - from) (chars t)) e ∙ ap (take (to - from)) c.rest_is

-- the text with another one between two cuts
pub filled_is : {bs : List ℕ} (n m from to : ℕ) (front new mid all : List ℕ) → IsCut bs n from → IsCut bs m to → front ≡ chars (take n bs) → mid ≡ front ++ new → all ≡ mid ++ chars (drop m bs) → all ≡ text_filled from to new (chars bs)
filled_is {bs} n m from to front new mid all c d e f g =
    g ∙ ap (λ x. x ++ chars (drop m bs)) (f ∙ ap (λ x. x ++ new) (e ∙ c.front_is))
    ∙ append_assoc (take from (chars bs)) new (chars (drop m bs)) ∙ ap (λ x. take from (chars bs) ++ (new ++ x)) d.rest_is
