-- What a command that touches no outside leaves of it.
use Rattle.std.proofs.Common.{◌≡◌, ℕ, Result}
use Rattle.tclv_engine.specs.declared.endings.End.{End}
use Rattle.tclv_engine.specs.Answers.{Caused}
use Rattle.tclv_engine.proofs.Binds.{calm_caused}

-- the count of faults stays
pub calm : {T : Type 0} (r : Result T End) (before now : ℕ) → Caused 0 0 r → now ≡ before → Caused before now r
calm r before now c h = calm_caused r before now c h
