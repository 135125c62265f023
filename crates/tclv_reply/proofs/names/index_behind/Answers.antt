use Rattle.std.proofs.Common.{sym, subst}
use Rattle.tclv_text.specs.Texts.{IsText}
use Rattle.tclv_reply.proofs.NameLemmas.{index_text}
use Rattle.tclv_reply.proofs.names.index_behind.Goals as goal

pub returns-clause-text : goal.returns-clause-text
returns-clause-text c = subst IsText (sym c.behind.ensures) (index_text c.args.name.now c.args.place c.requires.text c.requires.stands)
