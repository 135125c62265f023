use Rattle.std.proofs.Common.{◌∙◌, ap}
use Rattle.std.specs.Option.{option_copied}
use Rattle.tclv_vars.specs.declared.places.Place.TheVariants as place
use Rattle.tclv_vars.specs.Unset.{variable, is_held, unset, left_unset}
use Rattle.tclv_reply.specs.Names.{naming}
use Rattle.tclv_plain.proofs.unset_commands.unset_named.Goals as goal

pub returns-clause-answer : goal.returns-clause-answer
returns-clause-answer c =
    c.unset.ensures.answer
    ∙ ap (λ h. is_held (variable h.vars place.Frame c.name.result.now (option_copied c.index.result))) c.values.view_is
    ∙ ap (λ n. is_held (variable c.args.values.now.vars place.Frame n (option_copied c.index.result))) c.name.ensures.name
    ∙ ap (λ i. is_held (variable c.args.values.now.vars place.Frame (naming c.args.name.now).name i)) c.index.ensures.index

pub returns-clause-vars : goal.returns-clause-vars
returns-clause-vars c =
    c.unset.ensures.unset
    ∙ ap (λ h. unset h.vars place.Frame c.name.result.now (option_copied c.index.result)) c.values.view_is
    ∙ ap (λ n. unset c.args.values.now.vars place.Frame n (option_copied c.index.result)) c.name.ensures.name
    ∙ ap (λ i. unset c.args.values.now.vars place.Frame (naming c.args.name.now).name i) c.index.ensures.index

pub returns-clause-texts : goal.returns-clause-texts
returns-clause-texts c =
    c.unset.ensures.texts
    ∙ ap (λ h. left_unset h.store.cells h.vars place.Frame c.name.result.now (option_copied c.index.result)) c.values.view_is
    ∙ ap (λ n. left_unset c.args.values.now.store.cells c.args.values.now.vars place.Frame n (option_copied c.index.result)) c.name.ensures.name
    ∙ ap (λ i. left_unset c.args.values.now.store.cells c.args.values.now.vars place.Frame (naming c.args.name.now).name i) c.index.ensures.index
