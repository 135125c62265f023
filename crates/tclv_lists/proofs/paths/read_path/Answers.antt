use Rattle.tclv_lists.proofs.PathLemmas.{words_path}
use Rattle.tclv_lists.proofs.paths.read_path.Goals as goal

pub returns-then-to-from-ne1-clause-path : goal.returns-then-to-from-ne1-clause-path
returns-then-to-from-ne1-clause-path c = words_path c.args.store.now.stack c.args.from c.args.to c.requires.order c.requires.within c.if-to-from-ne1.true
