use Rattle.std.proofs.Common.{ℕ, List, Option, sym, subst₂}
use Rattle.tclv_vars.specs.declared.places.Place.TheVariants as place
use Rattle.tclv_vars.specs.Undo.{FreshWrite}
use Rattle.tclv_engine.proofs.named_cells.take_back_named.Goals as goal

pub take_back-requires-clause-wrote : goal.take_back-requires-clause-wrote
take_back-requires-clause-wrote c =
    let t = c.requires.wrote.0 in
    let P : List ℕ → Option (List ℕ) → Type 0 = λ n i. FreshWrite t place.Frame n i c.args.lacked c.args.vars.now in
    (t, subst₂ P (sym c.name.ensures.name) (sym c.index.ensures.index) c.requires.wrote.1)

pub returns : goal.returns
returns c = record {
  before = λ t h.
      let P : List ℕ → Option (List ℕ) → Type 0 = λ n i. FreshWrite t place.Frame n i c.args.lacked c.args.vars.now in
      c.take_back.ensures.before t (subst₂ P (sym c.name.ensures.name) (sym c.index.ensures.index) h);
}
