use Rattle.tclv_text.proofs.TrimLemmas.{trim_text}
use Rattle.tclv_text.proofs.trims.trim_space.Goals as goal

pub returns-clause-text : goal.returns-clause-text
returns-clause-text c = (trim_text c.args.text.now c.trim.result.now c.requires c.trim.ensures).1

pub returns-clause-utf8 : goal.returns-clause-utf8
returns-clause-utf8 c = (trim_text c.args.text.now c.trim.result.now c.requires c.trim.ensures).0
