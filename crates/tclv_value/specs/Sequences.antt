-- Lists of numbers at equal steps.
use Rattle.std.specs.Prelude.{ℕ, ◌<◌, List, map, ℤ, pos, ◌+ℤ◌, ◌*ℤ◌}
use Rattle.std.specs.List.{range_with_len}
use Rattle.std.specs.Int.{w64}
use Rattle.std.specs.Int.RustNames.{FitsSigned}
use Rattle.tclv_text.specs.Numbers.{whole_text}
use Rattle.tclv_value.specs.declared.faults.ValueFault.{ValueFault}
use Rattle.tclv_value.specs.declared.faults.ValueFault.TheVariants as fault

-- number k of a sequence, from 0
abbrev pub number_at : ℤ → ℤ → ℕ → ℤ
number_at start step k = start +ℤ step *ℤ pos k

-- the decimal texts of the first so many numbers of a sequence
abbrev pub sequence : ℤ → ℤ → ℕ → List (List ℕ)
sequence start step count = map (λ k. whole_text (number_at start step k)) (range_with_len 0 count)

-- each of the numbers has 64 bits
abbrev pub IsInWords : ℤ → ℤ → ℕ → Type 0
IsInWords start step count = (k : ℕ) → k < count → FitsSigned w64 (number_at start step k)

-- one of the numbers has more than 64 bits
abbrev pub LeavesWords : ℤ → ℤ → ℕ → Type 0
LeavesWords start step count = (k : ℕ) × (k < count) × (FitsSigned w64 (number_at start step k) → ⊥)

-- A sequence is refused: one of its numbers has more than 64 bits, or memory ran out.
abbrev pub RefusesSequence : ValueFault → ℤ → ℤ → ℕ → Type 0
RefusesSequence fault.TooLarge start step count = LeavesWords start step count
RefusesSequence fault.NoMemory start step count = Unit {0}
RefusesSequence _ start step count = ⊥
