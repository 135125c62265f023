use Rattle.std.proofs.Common.{sym, ap, ◌∙◌, Option, slice_get}
use Rattle.std.proofs.lemmas.Option.{slice_get_past}
use Rattle.std.specs.Option.{option_map_or}
use Rattle.std.specs.FinMap.{get, empty}
use Rattle.tclv_vars.specs.declared.parts.Frame.{Frame}
use Rattle.tclv_vars.specs.declared.places.Home.TheVariants.{Local}
use Rattle.tclv_vars.specs.Scoping.{slot_of}
use Rattle.tclv_vars.proofs.MapLemmas.{absent}
use Rattle.tclv_vars.proofs.scopes.Scopes.slot.Goals as goal

pub returns-in-None : goal.returns-in-None
returns-in-None c =
    let past = ap (λ xs. slice_get xs c.in-Local.frame) (sym c.deref.ensures.value) ∙ slice_get_past c.deref.result.now c.in-Local.frame c.in-None.ensures.lookup.3 in
    absent c.args.name.now ∙ ap (λ (o : Option Frame). get (option_map_or (λ (f : Frame). f.names) o empty) c.args.name.now) (sym past)
    ∙ ap (λ s. slot_of s (Local c.in-Local.frame) c.args.name.now) c.self.view_is ∙ ap (λ h. slot_of c.args.self.now h c.args.name.now) (sym c.in-Local.is)
