-- What reading a script file gives.
use Rattle.std.specs.Prelude.{ℕ, true, false, ◌≡◌, ◌<◌, ◌≤◌, ◌^◌, List, length, Option, Some, None, Result, Ok, Err}
use Rattle.std.specs.Str.{chars, is_utf8}
use Rattle.tclv_shell.specs.declared.script_files.Loaded.{Loaded}
use Rattle.tclv_shell.specs.declared.script_files.Loaded.TheVariants.{Missing, TooLarge, NotUtf8, Text}
use Rattle.tclv_shell.specs.declared.halts.Halt.{Halt}

-- what the bytes of a file are: first their number is looked at, and then whether they are UTF-8
abbrev pub Judged : List ℕ → Loaded → Type 0
Judged bytes Missing = ⊥
Judged bytes TooLarge = 2 ^ 30 < length bytes
Judged bytes NotUtf8 = (length bytes ≤ 2 ^ 30) × (is_utf8 bytes ≡ false)
Judged bytes (Text text) = (length bytes ≤ 2 ^ 30) × (is_utf8 bytes ≡ true) × (text ≡ chars bytes)

-- a file that isn't there is missing
abbrev pub Found : Option (List ℕ) → Loaded → Type 0
Found None Missing = Unit {0}
Found None TooLarge = ⊥
Found None NotUtf8 = ⊥
Found None (Text text) = ⊥
Found (Some bytes) loaded = Judged bytes loaded

abbrev pub Gives : Option (List ℕ) → Result Loaded Halt → Type 0
Gives file (Err halt) = Unit {0}
Gives file (Ok loaded) = Found file loaded

-- all that is left, or so much of it that it is too large
pub record IsWhole (rest bytes : List ℕ) : Type 0 where
  pub all : length bytes ≤ 2 ^ 30 → bytes ≡ rest
  pub too_large : 2 ^ 30 < length bytes → 2 ^ 30 < length rest
