-- What a call answers, clause by clause.
use Rattle.std.proofs.Common.{◌≡◌, ℕ, Bool, IfOk, IfErr, OnErr}
use Rattle.std.specs.Prelude.{Result, Ok, Err}
use Rattle.tclv_vars.specs.declared.faults.VarFault.{VarFault}
use Rattle.tclv_vars.specs.Table.{Table, Spot, Gives, Refuses}

pub gives_spot : (m : Result Spot VarFault) (old : Table) (r : Result (ℕ × Bool) VarFault) (new : Table) → Gives m old r new → IfOk r (λ p. m ≡ Ok (record { cell = p.0; fresh = p.1; after = new }))
gives_spot m old (Ok p) new g = g
gives_spot m old (Err e) new g = tt

pub gives_fault : (m : Result Spot VarFault) (old : Table) (r : Result (ℕ × Bool) VarFault) (new : Table) → Gives m old r new → IfErr r (Refuses m)
gives_fault m old (Ok p) new g = tt
gives_fault m old (Err e) new g = g.0

pub gives_same : (m : Result Spot VarFault) (old : Table) (r : Result (ℕ × Bool) VarFault) (new : Table) → Gives m old r new → OnErr r (new ≡ old)
gives_same m old (Ok p) new g = tt
gives_same m old (Err e) new g = g.1
