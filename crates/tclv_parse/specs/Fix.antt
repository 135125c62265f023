-- Functions of texts by recursion on shorter texts.
use Rattle.std.specs.Prelude.{◌≡◌, ℕ, zero, suc, ◌<◌, length}
use Rattle.tclv_parse.specs.Runs.{Text}

unfoldable pub go : {A : Type 0} → ((Text → A) → Text → A) → A → ℕ → Text → A
go step stuck zero t = step (λ _. stuck) t
go step stuck (suc n) t = step (go step stuck n) t

-- The function f with f t = step f t. A step calls it at shorter texts alone, as `IsLocal` says, so the value where the recursion is cut off plays no part.
unfoldable pub fix : {A : Type 0} → ((Text → A) → Text → A) → A → Text → A
fix step stuck t = go step stuck (length t) t

abbrev pub IsLocal : {A : Type 0} → ((Text → A) → Text → A) → Type 0
IsLocal {A} step = (f g : Text → A) (t : Text) → ((u : Text) → length u < length t → f u ≡ g u) → step f t ≡ step g t
