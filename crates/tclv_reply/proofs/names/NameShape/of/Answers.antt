use Rattle.std.proofs.Common.{◌∙◌, sym, ap}
use Rattle.tclv_reply.specs.Names.{is_qualified}
use Rattle.tclv_reply.proofs.NameLemmas.{shape_read}
use Rattle.tclv_reply.proofs.names.NameShape.of.Goals as goal

pub array_before-requires-clause-stands : goal.array_before-requires-clause-stands
array_before-requires-clause-stands c = sym c.open_of.ensures ∙ c.in-Some.is

pub returns-in-Some : goal.returns-in-Some
returns-in-Some c = shape_read c.args.name.now _ _ (sym c.open_of.ensures ∙ c.in-Some.is) (c.is_qualified.ensures ∙ ap is_qualified c.array_before.ensures.array)

pub returns-in-None : goal.returns-in-None
returns-in-None c = shape_read c.args.name.now _ _ (sym c.open_of.ensures ∙ c.in-None.is) c.is_qualified-in-None.ensures
