use Rattle.std.proofs.Common.{sym, ap, subst, ◌∙◌}
use Rattle.std.specs.Option.{option_copied}
use Rattle.tclv_vars.specs.Scoping.{home}
use Rattle.tclv_vars.specs.Table.{Table}
use Rattle.tclv_vars.specs.Undo.{undone}
use Rattle.tclv_vars.specs.Sound.{Sound}
use Rattle.tclv_vars.proofs.UndoLemmas.{undo_write}
use Rattle.tclv_vars.proofs.variables.Vars.take_back.Goals as goal

pub returns : goal.returns
returns c = record {
  before = λ t f. c.take_back.ensures ∙ ap (λ (u : Table). undone c.args.lacked u (home u.scopes c.args.at) c.args.name.now (option_copied c.args.index)) c.self.view_is
      ∙ undo_write t c.args.at c.args.name.now (option_copied c.args.index) c.args.lacked c.args.self.now f;
}

pub invariant_of-self : goal.invariant_of-self
invariant_of-self c =
    let t = c.requires.wrote.0 in
    let f = c.requires.wrote.1 in
    subst Sound (sym (c.take_back.ensures ∙ ap (λ (u : Table). undone c.args.lacked u (home u.scopes c.args.at) c.args.name.now (option_copied c.args.index)) c.self.view_is
    ∙ undo_write t c.args.at c.args.name.now (option_copied c.args.index) c.args.lacked c.args.self.now f)) f.sound
