-- How texts are compared with a pattern.
use Rattle.std.specs.Prelude.{ℕ, Bool, List}
use Rattle.std.specs.Str.{bytes_eq}
use Rattle.tclv_text.specs.Globs.{folded, matches}
use Rattle.tclv_reply.specs.declared.comparing.Matching.{Matching}
use Rattle.tclv_reply.specs.declared.comparing.Matching.TheVariants.{Exact, Glob}

-- The text fits the pattern: it is the same, or it fits as a glob. Where case counts for nothing, ASCII letters count in lower case.
abbrev pub fits_pattern : Matching → Bool → List ℕ → List ℕ → Bool
fits_pattern Exact nocase pattern text = bytes_eq (folded nocase pattern) (folded nocase text)
fits_pattern Glob nocase pattern text = matches nocase pattern text
