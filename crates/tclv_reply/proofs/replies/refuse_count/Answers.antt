use Rattle.std.proofs.Common.{ℕ, List, [], ◌∷◌, ◌++◌, ◌∙◌, ap, refl, get_or}
use Rattle.std.specs.Prelude.{codes}
use Rattle.tclv_model.specs.Message.{text_of}
use Rattle.tclv_model.specs.declared.messages.MessageId.TheVariants.{WrongArguments}
use Rattle.tclv_reply.proofs.replies.refuse_count.Goals as goal

pub returns-in-Ok-clause-refused : goal.returns-in-Ok-clause-refused
returns-in-Ok-clause-refused c =
    let s = c.args.store.now.stack in
    let told = c.in-Ok.ensures.pushed ∙ ap (λ (u : List ℕ). s ++ (text_of WrongArguments (get_or s c.args.at []) u ∷ codes "TCL WRONGARGS" ∷ [])) c.usage_text.ensures.text in
    record { message = _; code = _; refused = refl; top = record { between = []; is = told } }
