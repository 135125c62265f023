-- Parts of a text, whose places count its characters.
use Rattle.std.specs.Prelude.{ℕ, ◌-◌, List, ◌++◌, take, drop}

-- what stands from one place up to another
abbrev pub text_between : ℕ → ℕ → List ℕ → List ℕ
text_between from to text = take (to - from) (drop from text)

-- the text with another one in place of what stands from one place up to another
abbrev pub text_filled : ℕ → ℕ → List ℕ → List ℕ → List ℕ
text_filled from to new text = take from text ++ (new ++ drop to text)
