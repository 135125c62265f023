-- The bytes of a list's text.
use Rattle.std.specs.Prelude.{◌≡◌, ℕ, List}
use Rattle.std.specs.Str.{chars}
use Rattle.tclv_text.specs.Texts.{IsText}
use Rattle.tclv_text.specs.Quotes.{list_text}

-- the bytes of the canonical text of these elements
pub record IsListText (ts : List (List ℕ)) (bs : List ℕ) : Type 0 where
  pub utf8 : IsText bs
  pub text : chars bs ≡ list_text ts
