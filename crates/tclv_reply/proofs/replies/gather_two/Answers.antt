use Rattle.std.proofs.Common.{[], ◌-◌, ap}
use Rattle.tclv_reply.proofs.StackLemmas.{two_moved}
use Rattle.tclv_reply.proofs.replies.gather_two.Goals as goal

pub returns-clause-stack : goal.returns-clause-stack
returns-clause-stack c =
    two_moved c.args.store.now.stack c.copy_over.new.self.stack c.copy_over-2.new.self.stack c.pop.new.self.stack c.args.base (c.height-last.result - 1) [] c.requires (ap (λ k. k - 1) c.height-last.ensures) c.copy_over.ensures.stack c.copy_over-2.ensures.stack c.pop.ensures.popped
