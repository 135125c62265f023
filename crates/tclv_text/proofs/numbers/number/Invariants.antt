use Rattle.std.proofs.Common.{◌≡◌, ◌-◌, ◌^◌, ◌≤◌, drop}
use Rattle.tclv_text.specs.Numbers.{number, capped, digits_after}
use Rattle.tclv_text.proofs.numbers.number.Given as goal

abbrev pub invariant-loop-b : goal.invariant-loop-b
invariant-loop-b l = (capped (digits_after l.radix l.n (drop l.b-index l.ds)) ≡ capped (number l.radix l.ds)) × (l.n ≤ 2 ^ 64 - 1)
