use Rattle.std.proofs.Common.{rules, ap, sym}
use Rattle.tclv_engine.proofs.Binds.{bind_ok, then_stop}
use Rattle.tclv_plain.proofs.link_commands.run_global.Goals as goal

pub returns-in_err-link_globals-clause-answer : goal.returns-in_err-link_globals-clause-answer
returns-in_err-link_globals-clause-answer g c here w told = then_stop _ (search rules) (c.in_err-link_globals.ensures.answer here w told)

pub returns-clause-answer : goal.returns-clause-answer
returns-clause-answer g c here w told = bind_ok _ (c.in_ok-link_globals.ensures.answer here w told) (λ u v e shown. c.push_empty.ensures.answer here v e)
