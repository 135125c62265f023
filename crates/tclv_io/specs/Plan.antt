-- What goes wrong in an outside in memory, and how much each read gives.
use Rattle.std.specs.Prelude.{ℕ, ◌+◌, ◌-◌, ◌^◌, ◌==◌, max, min, List, Option, unwrap_or, slice_get}
use Rattle.std.specs.Option.{option_map}
use Rattle.std.specs.List.{find}

-- one more, up to the last value of a counter of 64 bits
abbrev pub next_of : ℕ → ℕ
next_of n = min (n + 1) (2 ^ 64 - 1)

-- how many bytes a call takes before it fails, where it is to fail: the first entry of its number counts
abbrev pub failing : List (ℕ × ℕ) → ℕ → Option ℕ
failing fails call = option_map (λ e. e.1) (find (λ e. e.0 == call) fails)

-- the most that a read gives: at least 1, and all that there is once the list is used up
abbrev pub limit_of : List ℕ → ℕ → ℕ
limit_of pieces read = max (unwrap_or (slice_get pieces read) (2 ^ 64 - 1)) 1
