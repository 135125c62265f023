-- The list of the arguments.
use Rattle.std.proofs.Common.{◌≡◌, ℕ, suc, ◌+◌, ◌<◌, false, arith, [], List, ◌∷◌, ◌++◌, length, drop, get_or, drop-cons, add-one, sym, ap, ◌∙◌, subst, refl}
use Rattle.std.specs.Prelude.{codes, map}
use Rattle.std.specs.Str.{chars}
use Rattle.std.proofs.lemmas.Str.{chars-nil}
use Rattle.std.proofs.lemmas.List.{append_assoc, get_or-map, length-map}
use Rattle.tclv_text.specs.Texts.{IsText, AppendsText}
use Rattle.tclv_text.specs.Quotes.{quoted, further, list_text}

-- what was put at the end of nothing is all there is
pub behind_nothing : (old new cs : List ℕ) → old ≡ [] → AppendsText old new cs → IsText new × (chars new ≡ cs)
behind_nothing old new cs none h =
    let all = h (subst IsText (sym none) (record { utf8 = ([], (refl, refl)) })) in
    (all.0, all.1 ∙ ap (λ o. chars o ++ cs) none ∙ ap (λ t. t ++ cs) chars-nil)

is_space : chars (codes " ") ≡ codes " "
unfolding chars
is_space = refl

-- the next argument, behind a space
further_step : (text : List ℕ) (ts : List (List ℕ)) (i : ℕ) (t : List ℕ) → i < length ts → t ≡ get_or ts i t → ((text ++ chars (codes " ")) ++ quoted t false) ++ further (drop (i + 1) ts) ≡ text ++ further (drop i ts)
further_step text ts i t lt is =
    let later = further (drop (i + 1) ts) in
    append_assoc (text ++ chars (codes " ")) (quoted t false) later
    ∙ append_assoc text (chars (codes " ")) (quoted t false ++ later)
    ∙ ap (λ s. text ++ (s ++ (quoted t false ++ later))) is_space
    ∙ ap (λ n. text ++ (32 ∷ (quoted t false ++ further (drop n ts)))) (add-one i)
    ∙ ap (λ us. text ++ further us) (ap (λ u. u ∷ drop (suc i) ts) is ∙ sym (drop-cons ts i t lt))

pub further_more : {X : Type 0} (f : X → List ℕ) (xs : List X) (i : ℕ) (x : X) (text mid new bytes : List ℕ) → i < length xs → x ≡ get_or xs i x → mid ≡ text ++ chars (codes " ") → new ≡ mid ++ bytes → bytes ≡ quoted (chars (f x)) false → new ++ further (drop (i + 1) (map chars (map f xs))) ≡ text ++ further (drop i (map chars (map f xs)))
further_more f xs i x text mid new bytes lt is spaced added spelled =
    let ts = map chars (map f xs) in
    let within : i < length (map f xs) = omega (arith, lt, length-map xs f) in
    let item : chars (f x) ≡ get_or ts i (chars (f x)) = ap (λ y. chars (f y)) is ∙ ap chars (sym (get_or-map f xs i x (f x) lt)) ∙ sym (get_or-map chars (map f xs) i (f x) (chars (f x)) within) in
    ap (λ t. t ++ further (drop (i + 1) ts)) (added ∙ ap (λ m. m ++ bytes) spaced ∙ ap (λ b. (text ++ chars (codes " ")) ++ b) spelled)
    ∙ further_step text ts i (chars (f x)) (omega (arith, within, length-map (map f xs) chars)) item

-- there are no arguments
pub none_listed : {X : Type 0} (f : X → List ℕ) (xs : List X) → length xs < 1 → [] ≡ list_text (map chars (map f xs))
none_listed f [] lt = refl
none_listed f (x ∷ xs) lt = absurd (omega arith)

-- a space is a text
pub space_is_text : IsText (codes " ")
unfolding lib.Utf8.encode
space_is_text = record { utf8 = (codes " ", (refl, refl)) }
