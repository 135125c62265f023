use Rattle.tclv_plain.proofs.channels.write_on.Goals as goal

pub returns-clause-answer : goal.returns-clause-answer
returns-clause-answer g c w told = c.write_piece.ensures.answer c.args.machine.now w told
