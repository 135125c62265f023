-- The top of a stack, which is listed from the bottom.
use Rattle.std.specs.Prelude.{ℕ, ◌-◌, List, length, take, drop}

-- the n texts on top, the lowest of them first
abbrev pub top : {A : Type 0} → ℕ → List A → List A
top n stack = drop (length stack - n) stack

-- the texts below them
abbrev pub under : {A : Type 0} → ℕ → List A → List A
under n stack = take (length stack - n) stack
