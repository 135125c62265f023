use Rattle.tclv_engine.specs.Answers.{outer}
use Rattle.tclv_interp.proofs.commands.finish.Goals as goal

pub returns-clause-answer : goal.returns-clause-answer
returns-clause-answer g c w told = c.finish_behind.ensures.answer (outer (g.O.Outside.told c.args.out.now) (g.O.Outside.torn c.args.out.now)) w told
