use Rattle.tclv_text.proofs.TrimLemmas.{unescaped_text}
use Rattle.tclv_text.proofs.trims.trim_unescaped.Goals as goal

pub returns-clause-text : goal.returns-clause-text
returns-clause-text c = (unescaped_text c.args.text.now c.trim_unescaped_bytes.result.now c.requires c.trim_unescaped_bytes.ensures).1

pub returns-clause-utf8 : goal.returns-clause-utf8
returns-clause-utf8 c = (unescaped_text c.args.text.now c.trim_unescaped_bytes.result.now c.requires c.trim_unescaped_bytes.ensures).0
