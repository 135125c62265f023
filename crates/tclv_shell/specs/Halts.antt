-- What cuts a run short, and what a write leaves.
use Rattle.std.specs.Prelude.{ℕ, ◌+◌, ◌==◌, if◌then◌else◌, ◌≡◌, ◌≤◌, List, length, take, Option, Some, Result, Ok, Err}
use Rattle.std.specs.Option.{option_map}
use Rattle.tclv_io.specs.World.{World, Out, Target, Output, Errors, add}
use Rattle.tclv_io.specs.Causes.{Rose}
use Rattle.tclv_io.specs.Events.{shown}
use Rattle.tclv_model.specs.declared.reports.End as ends
use Rattle.tclv_model.specs.declared.reports.End.TheVariants as end
use Rattle.tclv_shell.specs.declared.halts.Halt.{Halt}
use Rattle.tclv_shell.specs.declared.halts.Halt.TheVariants.{Device, Memory}

-- what a run knows of the outside: what others see of it, where it tells, and its two counts
pub record Seen : Type 0 where
  pub shown : Option Out
  pub faults : ℕ
  pub torn : ℕ

abbrev pub seen : Option World → ℕ → ℕ → Seen
seen told faults torn = record { shown = shown told; faults = faults; torn = torn }

-- where the outside tells, writes that failed took `part` bytes meanwhile
abbrev pub Tore : Seen → Seen → ℕ → Type 0
Tore before after part = (o : Out) → before.shown ≡ Some o → after.torn ≡ before.torn + part

-- the count of faults rose where a device ended the run, and else it stays
abbrev pub HaltCause : {T : Type 0} → Seen → Seen → Result T Halt → Type 0
HaltCause before after (Ok x) = after.faults ≡ before.faults
HaltCause before after (Err Device) = (before.faults ≤ after.faults) × Rose before.faults after.faults
HaltCause before after (Err Memory) = after.faults ≡ before.faults

-- others see the same as before, and no write failed
pub record SeesSame (before after : Seen) : Type 0 where
  pub shown : after.shown ≡ before.shown
  pub torn : Tore before after 0

-- others see what a step makes of it, and writes that failed took `part` bytes
pub record Stepped (before after : Seen) (step : Out → Out) (part : ℕ) : Type 0 where
  pub shown : after.shown ≡ option_map step before.shown
  pub torn : Tore before after part

-- the whole piece was written, or none of it, or at a device's fault what the failed write took
abbrev pub Written : {T : Type 0} → Target → List ℕ → Result T Halt → Seen → Seen → Type 0
Written target piece (Ok x) before after = Stepped before after (λ o. add o target piece) 0
Written target piece (Err Device) before after = (part : ℕ) × (part ≤ length piece) × Stepped before after (λ o. add o target (take part piece)) part
Written target piece (Err Memory) before after = SeesSame before after

-- the target of a standard stream
abbrev pub standard : ℕ → Target
standard n = if n == 1 then Output else Errors

abbrev pub end_of : Halt → ends.End
end_of Device = end.Device
end_of Memory = end.Memory
