-- Characters that the readers of texts look for.
use Rattle.std.specs.Prelude.{ℕ, Bool, ◌||◌, ◌==◌}
use Rattle.std.specs.Int.{is_in_range}

-- white space of lists: space, and the characters 9 to 13
abbrev pub is_space : ℕ → Bool
is_space c = is_in_range 9 13 c || c == 32
