use Rattle.std.proofs.Common.{◌∙◌, ap}
use Rattle.tclv_vars.specs.Indices.{count_of}
use Rattle.tclv_reply.specs.Names.{naming}
use Rattle.tclv_plain.specs.ArrayRows.{indices_of}
use Rattle.tclv_plain.proofs.array_indices.size_of.Goals as goal

pub returns : goal.returns
returns c = c.size_named.ensures ∙ ap (λ h. count_of (indices_of h.vars (naming c.args.name.now))) c.values.view_is
