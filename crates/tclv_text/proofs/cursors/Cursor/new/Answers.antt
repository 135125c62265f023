use Rattle.std.proofs.Common.{arith}
use Rattle.tclv_text.proofs.CursorLemmas.{chars-short}
use Rattle.tclv_text.proofs.cursors.Cursor.new.Goals as goal

pub returns-clause-short : goal.returns-clause-short
returns-clause-short c = omega (arith, chars-short c.args.text.now c.requires)
