use Rattle.tclv_reply.proofs.NameLemmas.{front_text}
use Rattle.tclv_reply.proofs.names.array_before.Goals as goal

pub returns-clause-text : goal.returns-clause-text
returns-clause-text c = front_text c.args.name.now c.args.place c.requires.text c.requires.stands
