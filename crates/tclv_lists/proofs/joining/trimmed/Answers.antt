use Rattle.tclv_lists.proofs.TrimLemmas.{trimmed_text}
use Rattle.tclv_lists.proofs.joining.trimmed.Goals as goal

pub returns-clause-text : goal.returns-clause-text
returns-clause-text c = (trimmed_text c.args.text.now c.trimmed_bytes.result.now c.requires c.trimmed_bytes.ensures).1

pub returns-clause-utf8 : goal.returns-clause-utf8
returns-clause-utf8 c = (trimmed_text c.args.text.now c.trimmed_bytes.result.now c.requires c.trimmed_bytes.ensures).0
