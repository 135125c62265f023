use Rattle.std.proofs.Common.{◌≡◌, [], drop, ap, ◌∙◌, sym, arith}
use Rattle.tclv_text.proofs.CursorLemmas.{chars-empty}
use Rattle.tclv_text.proofs.cursors.Cursor.skip.Goals as goal

pub returns-in-empty : goal.returns-in-empty
returns-in-empty c =
    let none : c.args.self.now ≡ [] = sym c.self.view_is ∙ chars-empty c.self.inside.rest.now (omega arith) in
    none ∙ ap (drop 1) (sym none)
