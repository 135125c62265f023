use Rattle.std.proofs.Common.{ap, ◌∙◌, ◌++◌}
use Rattle.std.specs.Prelude.{pos}
use Rattle.tclv_text.specs.Numbers.{whole_text}
use Rattle.tclv_control.specs.ReturnRows.{first_options}
use Rattle.tclv_control.proofs.return_plans.all_options.Goals as goal

pub returns-clause-options : goal.returns-clause-options
returns-clause-options g c =
    c.in_ok-add_copies.ensures ∙ ap (λ os. os ++ c.all.result.now) (c.in_ok-options.ensures ∙ ap (first_options c.args.ret.now.code) c.in_ok-level.ensures.text)
    ∙ ap (λ os. first_options c.args.ret.now.code (whole_text (pos c.args.ret.now.level)) ++ os) c.all.ensures
