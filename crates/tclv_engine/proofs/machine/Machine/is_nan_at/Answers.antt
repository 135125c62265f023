use Rattle.std.proofs.Common.{ap, ◌∙◌}
use Rattle.tclv_engine.specs.Operations.{has_a, is_nan}
use Rattle.tclv_engine.proofs.NameLemmas.{bytes-are}
use Rattle.tclv_engine.proofs.WordLemmas.{text_kept}
use Rattle.tclv_engine.proofs.machine.Machine.is_nan_at.Goals as goal

pub returns-clause-nan : goal.returns-clause-nan
returns-clause-nan g c =
    c.has_a.ensures ∙ ap has_a (bytes-are _ _ c.lend.ensures.utf8 c.lend.ensures.text)
    ∙ ap is_nan (text_kept c.args.self.now.values.store c.make_text.new.self.store c.args.at c.in_ok-make_text.ensures.stack c.in_ok-make_text.ensures.same.cells)
