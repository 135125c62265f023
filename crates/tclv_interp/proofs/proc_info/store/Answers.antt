use Rattle.std.proofs.Common.{rules}
use Rattle.tclv_engine.proofs.Binds.{bind_ok, then_stop}
use Rattle.tclv_interp.proofs.proc_info.store.Goals as goal

pub returns-in_err-assign_text-clause-answer : goal.returns-in_err-assign_text-clause-answer
returns-in_err-assign_text-clause-answer c here w told = then_stop _ (search rules) (c.in_err-assign_text.ensures.answer here w told)

pub returns-clause-answer : goal.returns-clause-answer
returns-clause-answer c here w told = bind_ok _ (c.in_ok-assign_text.ensures.answer here w told) (λ k v e shown. c.push_flag.ensures.answer here v e)
