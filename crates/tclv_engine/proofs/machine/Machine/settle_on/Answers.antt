use Rattle.std.proofs.Common.{rules, arith, ap, ◌∙◌, ◌-◌, ◌≡◌, [], length, take, get_or, set}
use Rattle.tclv_engine.proofs.ListLemmas.{set_then_under}
use Rattle.tclv_engine.proofs.machine.Machine.settle_on.Goals as goal

pub returns-clause-stack : goal.returns-clause-stack
returns-clause-stack g c =
    set_then_under c.args.self.now.values.store.stack c.copy_over.new.self.store.stack c.pop.new.self.store.stack c.args.to (c.height-last.result - 1) c.requires (ap (λ n. n - 1) c.height-last.ensures) c.copy_over.ensures.stack c.pop.ensures.popped
