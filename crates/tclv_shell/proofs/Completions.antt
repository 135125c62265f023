-- A run that no device cut short.
use Rattle.std.proofs.Common.{◌≡◌, ◌⊎◌, inl, inr, refl, Some}
use Rattle.std.specs.Prelude.{Option}
use Rattle.tclv_io.specs.World.{World}
use Rattle.tclv_io.specs.Causes.{Rose}
use Rattle.tclv_model.specs.declared.reports.End.{End}
use Rattle.tclv_model.specs.declared.reports.End.TheVariants.{Done, Failed, Usage, Budget, Device, Memory}
use Rattle.tclv_model.specs.declared.reports.Report.{Report}
use Rattle.tclv_shell.specs.Halts.{Seen}
use Rattle.tclv_shell.specs.Run.{Meaning, Follows, Completes, IsComplete}

own_or_memory : (M : Type 0) (e : End) → (IsComplete e → M) → (e ≡ Device → ⊥) → M ⊎ (e ≡ Memory)
own_or_memory M Done own calm = inl (own tt)
own_or_memory M Failed own calm = inl (own tt)
own_or_memory M Usage own calm = inl (own tt)
own_or_memory M Budget own calm = inl (own tt)
own_or_memory M Device own calm = absurd (calm refl)
own_or_memory M Memory own calm = inr refl

pub completes : (meaning : World → Meaning) (told : Option World) (b a : Seen) (report : Report) → Follows meaning told b a report → (w : World) → told ≡ Some w → (Rose b.faults a.faults → ⊥) → Completes (meaning w) w.out a.shown report
completes meaning told b a report follows w e calm = own_or_memory _ report.end (follows.all w e) (λ is. calm (follows.device is))
