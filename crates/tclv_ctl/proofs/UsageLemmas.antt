-- Laws of the usage of a procedure.
use Rattle.std.proofs.Common.{◌≡◌, ℕ, ◌+◌, ◌-◌, ◌<◌, ◌≤◌, List, [], ◌∷◌, ◌++◌, length, take, drop, get_or, refl, sym, ap, ◌∙◌, arith, append-nil, append_assoc}
use Rattle.std.specs.Prelude.{codes}
use Rattle.std.specs.List.{flat_map}
use Rattle.std.specs.Str.{chars}
use Rattle.std.proofs.lemmas.List.{take_more, get_or-drop, length-drop}
use Rattle.std.proofs.lemmas.List.Concat.{flat_map-append}
use Rattle.std.proofs.lemmas.Str.{chars-nil}
use Rattle.tclv_value.specs.declared.procedures.Param.{Param}
use Rattle.tclv_reply.proofs.Laws.{words_step, ascii_points}
use Rattle.tclv_ctl.specs.Switching.{Text}
use Rattle.tclv_ctl.specs.Arguments.{shown, spaced}

abbrev pub behind_space : Text → Text
behind_space w = codes " " ++ w

pub mapped_more : {X : Type 0} (f : X → Text) (xs : List X) (k : ℕ) (d : X) → k < length xs → flat_map f (take (k + 1) xs) ≡ flat_map f (take k xs) ++ f (get_or xs k d)
mapped_more f xs k d h = ap (flat_map f) (take_more xs k d h) ∙ flat_map-append f (take k xs) (get_or xs k d ∷ []) ∙ ap (λ (t : Text). flat_map f (take k xs) ++ t) (append-nil (f (get_or xs k d)))

-- one word more, behind a space
pub words_more : (s : List Text) (from at : ℕ) (old t v word : Text) → from ≤ at → at < length s → t ≡ old ++ flat_map behind_space (take (at - from) (drop from s)) → v ≡ t ++ behind_space word → word ≡ get_or s at [] →
    v ≡ old ++ flat_map behind_space (take (at + 1 - from) (drop from s))
words_more s from at old t v word l h a e f =
    let k = at - from in
    let next : at + 1 - from ≡ k + 1 = omega arith in
    let place : from + k ≡ at = omega arith in
    let inside : k < length (drop from s) = omega (arith, length-drop from s) in
    let so_far = flat_map behind_space (take k (drop from s)) in
    let here : word ≡ get_or (drop from s) k [] = f ∙ sym (get_or-drop from s k [] ∙ ap (λ (i : ℕ). get_or s i []) place) in
    e ∙ ap (λ (x : Text). x ++ behind_space word) a ∙ append_assoc old so_far (behind_space word)
    ∙ ap (λ (x : Text). old ++ (so_far ++ behind_space x)) here
    ∙ ap (λ (x : Text). old ++ x) (sym (mapped_more behind_space (drop from s) k [] inside))
    ∙ ap (λ (i : ℕ). old ++ flat_map behind_space (take i (drop from s))) (sym next)

pub spaced_is : (s : List Text) (from to : ℕ) → from < to → to ≤ length s → spaced (take (to - from) (drop from s)) ≡ get_or s from [] ++ flat_map behind_space (take (to - (from + 1)) (drop (from + 1) s))
spaced_is s from to h l = ap spaced (words_step s from to h l)

-- texts of marks
pub space_points : chars (codes " ") ≡ codes " "
space_points = ascii_points (codes " ") refl

pub open_points : chars (codes " ?") ≡ codes " ?"
open_points = ascii_points (codes " ?") refl

pub close_points : chars (codes "?") ≡ codes "?"
close_points = ascii_points (codes "?") refl

pub no_points : chars [] ≡ []
no_points = chars-nil

pub rest_points : chars (codes " ?arg ...?") ≡ codes " ?arg ...?"
rest_points = ascii_points (codes " ?arg ...?") refl

-- one parameter more
pub shown_more : (ps : List Param) (k : ℕ) (p : Param) (old t u : Text) → k < length ps → p ≡ get_or ps k p → t ≡ old ++ flat_map shown (take k ps) → u ≡ t ++ shown p → u ≡ old ++ flat_map shown (take (k + 1) ps)
shown_more ps k p old t u h is a b =
    b ∙ ap (λ (x : Text). x ++ shown p) a ∙ append_assoc old (flat_map shown (take k ps)) (shown p)
    ∙ ap (λ (q : Param). old ++ (flat_map shown (take k ps) ++ shown q)) is
    ∙ ap (λ (x : Text). old ++ x) (sym (mapped_more shown ps k p h))
