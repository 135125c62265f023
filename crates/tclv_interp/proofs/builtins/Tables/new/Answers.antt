use Rattle.std.proofs.Common.{ap, ◌∙◌}
use Rattle.tclv_names.specs.Keyed.{Named}
use Rattle.tclv_interp.specs.declared.builtins.Target.{Target}
use Rattle.tclv_interp.specs.declared.builtins.Tables.{Tables}
use Rattle.tclv_interp.proofs.BuiltinLemmas.{all_built_in}
use Rattle.tclv_interp.proofs.builtins.Tables.new.Goals as goal

tables-with : Named Target → Tables
tables-with commands = record { commands = commands }

pub returns : goal.returns
unfolding tables-with
returns c = ap tables-with (c.in_ok-fill.ensures ∙ all_built_in)
