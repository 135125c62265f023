use Rattle.std.proofs.Common.{subst}
use Rattle.std.specs.Prelude.{IfErr}
use Rattle.tclv_vars.specs.Table.{Refuses}
use Rattle.tclv_engine.proofs.HoldingsLemmas.{same_text}
use Rattle.tclv_engine.proofs.SettingLemmas.{write-same}
use Rattle.tclv_engine.proofs.values.Values.set_to_top.Goals as goal

pub returns-clause-refused : goal.returns-clause-refused
returns-clause-refused c =
    subst (λ m. IfErr c.write_top.result (Refuses m))
    (write-same c.args.self.now c.make_text.new.self c.args.name (same_text c.args.self.now.store c.make_text.new.self.store c.args.name c.in_ok-make_text.ensures.stack c.in_ok-make_text.ensures.same.cells) c.in_ok-make_text.ensures.same)
    c.write_top.ensures.refused
