-- A text that is cut in two.
use Rattle.std.specs.Prelude.{◌≡◌, ◌≤◌, ℕ, List, length, take, drop}
use Rattle.std.specs.Str.{chars}
use Rattle.tclv_text.specs.Texts.{IsText}

-- The first n bytes of a text are its first k code points, and what follows is the rest of both.
pub record IsCut (bs : List ℕ) (n k : ℕ) : Type 0 where
  pub within : n ≤ length bs
  pub points : k ≤ length (chars bs)
  pub front : IsText (take n bs)
  pub rest : IsText (drop n bs)
  pub front_is : chars (take n bs) ≡ take k (chars bs)
  pub rest_is : chars (drop n bs) ≡ drop k (chars bs)
