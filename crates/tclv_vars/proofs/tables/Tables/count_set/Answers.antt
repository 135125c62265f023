use Rattle.std.proofs.Common.{◌∙◌}
use Rattle.tclv_vars.proofs.IndexLemmas.{count_names}
use Rattle.tclv_vars.proofs.tables.Tables.count_set.Goals as goal

pub returns : goal.returns
returns c = c.count_in.ensures ∙ count_names c.args.self.now.cells.map c.args.elements.now
