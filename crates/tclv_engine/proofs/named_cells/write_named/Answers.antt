use Rattle.std.proofs.Common.{◌≡◌, ℕ, List, Option, Ok, subst₂}
use Rattle.std.specs.Prelude.{IfOk, IfErr}
use Rattle.tclv_vars.specs.declared.places.Place.TheVariants as place
use Rattle.tclv_vars.specs.Table.{write, Refuses}
use Rattle.tclv_engine.proofs.named_cells.write_named.Goals as goal

pub returns-clause-written : goal.returns-clause-written
returns-clause-written c =
    let P : List ℕ → Option (List ℕ) → Type 0 = λ n i. IfOk c.write.result (λ p. write c.args.vars.now place.Frame n i ≡ Ok (record { cell = p.0; fresh = p.1; after = c.write.new.self })) in
    subst₂ P c.name.ensures.name c.index.ensures.index c.write.ensures.written

pub returns-clause-refused : goal.returns-clause-refused
returns-clause-refused c =
    let P : List ℕ → Option (List ℕ) → Type 0 = λ n i. IfErr c.write.result (Refuses (write c.args.vars.now place.Frame n i)) in
    subst₂ P c.name.ensures.name c.index.ensures.index c.write.ensures.refused
