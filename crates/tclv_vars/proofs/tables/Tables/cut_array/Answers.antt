use Rattle.std.proofs.Common.{refl, sym, ap, subst, ◌∙◌, Some, IsSome}
use Rattle.std.specs.FinMap.{get, insert}
use Rattle.tclv_vars.specs.declared.parts.Content.TheVariants.{Array}
use Rattle.tclv_vars.specs.Table.{table_of}
use Rattle.tclv_vars.specs.Undo.{without_index}
use Rattle.tclv_vars.proofs.MapLemmas.{number_there, number_again}
use Rattle.tclv_vars.proofs.tables.Tables.cut_array.Goals as goal

pub replace-requires-2 : goal.replace-requires-2
replace-requires-2 c = record { there = subst IsSome (sym (number_there _ _ _) ∙ ap (λ m. get m c.args.cell) (sym c.replace.ensures.put)) refl }

pub returns : goal.returns
returns c =
    let t = table_of c.args.self.now in
    let contents = c.replace-2.ensures.put ∙ ap (λ m. insert m c.args.cell (Array c.take_out.new.self)) c.replace.ensures.put ∙ number_again _ _ _ _
    ∙ ap (λ es. insert t.contents c.args.cell (Array es)) c.take_out.ensures in
    (λ i. record t { contents = contents i }) ∙ ap (λ o. without_index t c.args.cell o c.args.index.now) (sym (ap Some c.in-Array.is) ∙ c.replace.ensures.was)
