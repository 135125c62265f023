-- The text of a script file: each end of a line is a newline.
use Rattle.std.specs.Prelude.{ℕ, Bool, true, false, ◌&&◌, ◌==◌, if◌then◌else◌, List, [], ◌∷◌}

-- A carriage return becomes a newline, and a newline directly behind a carriage return goes. Whether one stands before is given.
abbrev pub with_newlines : Bool → List ℕ → List ℕ
with_newlines behind_return [] = []
with_newlines behind_return (c ∷ cs) =
    if c == 13 then 10 ∷ with_newlines true cs
    else (if (c == 10) && behind_return then with_newlines false cs
    else c ∷ with_newlines false cs)

-- the text of a script, given the text of its file
abbrev pub script_text : List ℕ → List ℕ
script_text t = with_newlines false t
