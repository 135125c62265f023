-- What the readers of texts see of white space.
use Rattle.std.specs.Prelude.{ℕ, Bool, true, false, not, List, [], ◌∷◌}
use Rattle.tclv_text.specs.declared.cursors.Sign.{Sign}
use Rattle.tclv_text.specs.declared.cursors.Sign.TheVariants.{End, Blank, Newline}
use Rattle.tclv_text.specs.Characters.{is_space}

-- neither the end nor white space
abbrev pub is_shown : Sign → Bool
is_shown End = false
is_shown Blank = false
is_shown Newline = false
is_shown _ = true

-- something other than white space comes first
abbrev pub begins_shown : List ℕ → Bool
begins_shown [] = false
begins_shown (c ∷ cs) = not (is_space c)
