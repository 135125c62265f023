use Rattle.tclv_plain.proofs.UnsetLemmas.{behind_some, behind_none}
use Rattle.tclv_plain.proofs.unset_commands.behind.Goals as goal

pub returns-then-branch-clause-rest : goal.returns-then-branch-clause-rest
returns-then-branch-clause-rest g c = behind_some c.args.option.now c.args.machine.now.values.store.stack c.args.from _ c.in_ok-begins_with.ensures.answer c.if-branch.true

pub returns-else-branch-clause-rest : goal.returns-else-branch-clause-rest
returns-else-branch-clause-rest g c = behind_none c.args.option.now c.args.machine.now.values.store.stack c.args.from _ c.in_ok-begins_with.ensures.answer c.if-branch.false
