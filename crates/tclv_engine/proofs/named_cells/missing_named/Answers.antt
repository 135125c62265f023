use Rattle.std.proofs.Common.{◌∙◌, ap}
use Rattle.std.specs.Option.{option_copied}
use Rattle.tclv_vars.specs.declared.places.Place.TheVariants as place
use Rattle.tclv_vars.specs.Undo.{missing}
use Rattle.tclv_reply.specs.Names.{naming}
use Rattle.tclv_engine.proofs.named_cells.missing_named.Goals as goal

pub returns-clause-answer : goal.returns-clause-answer
returns-clause-answer c =
    c.missing.ensures.answer
    ∙ ap (λ n. missing c.args.vars.now place.Frame n (option_copied c.index.result)) c.name.ensures.name
    ∙ ap (λ i. missing c.args.vars.now place.Frame (naming c.args.name.now).name i) c.index.ensures.index
