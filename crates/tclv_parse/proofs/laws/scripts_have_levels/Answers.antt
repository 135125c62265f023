use Rattle.tclv_parse.proofs.LevelLemmas.{more, scripts_have_levels, readers_have_levels}
use Rattle.tclv_parse.proofs.laws.scripts_have_levels.Goals as goal

pub returns : goal.returns
returns c = record { scripts = scripts_have_levels; readers = readers_have_levels; more = more }
