use Rattle.std.proofs.Common.{◌≡◌, ℕ, List, Option, Ok, subst₂}
use Rattle.std.specs.Prelude.{OnOk, IfErr}
use Rattle.tclv_vars.specs.Links.{linked}
use Rattle.tclv_vars.specs.Table.{Refuses}
use Rattle.tclv_engine.proofs.named_cells.link_named.Goals as goal

pub returns-clause-linked : goal.returns-clause-linked
returns-clause-linked c =
    let P : List ℕ → Option (List ℕ) → Type 0 = λ n i. OnOk c.link.result (linked c.args.vars.now c.args.local.now c.args.root n i ≡ Ok c.link.new.self) in
    subst₂ P c.name.ensures.name c.index.ensures.index c.link.ensures.linked

pub returns-clause-refused : goal.returns-clause-refused
returns-clause-refused c =
    let P : List ℕ → Option (List ℕ) → Type 0 = λ n i. IfErr c.link.result (Refuses (linked c.args.vars.now c.args.local.now c.args.root n i)) in
    subst₂ P c.name.ensures.name c.index.ensures.index c.link.ensures.refused
