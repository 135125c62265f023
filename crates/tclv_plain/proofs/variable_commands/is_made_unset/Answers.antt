use Rattle.std.proofs.Common.{sym, ◌∙◌, ap, refl}
use Rattle.tclv_value.specs.View.{text_at}
use Rattle.tclv_engine.specs.Names.{bytes_of}
use Rattle.tclv_plain.proofs.VariableRowLemmas.{unset-unbuilt, unset-read}
use Rattle.tclv_plain.proofs.variable_commands.is_made_unset.Goals as goal

pub returns-then-shape : goal.returns-then-shape
returns-then-shape g c =
    let name = text_at c.args.machine.now.values.store c.args.name in
    unset-unbuilt (bytes_of name) name c.args.machine.now.values.vars refl (sym (ap (λ s. s.qualified) c.shape_at-shape.ensures) ∙ c.if-shape.true)

pub returns : goal.returns
returns g c =
    let name = text_at c.args.machine.now.values.store c.args.name in
    c.lacks_value.ensures
    ∙ unset-read (bytes_of name) name c.args.machine.now.values.vars _ refl (sym (ap (λ s. s.qualified) c.shape_at-shape.ensures) ∙ c.if-shape.false) (sym c.cell_at.ensures.answer)
