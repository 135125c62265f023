use Rattle.std.proofs.Common.{[], get_or, set, ap, ◌∙◌}
use Rattle.tclv_value.proofs.ChangeLemmas.{put_on_stack}
use Rattle.tclv_value.proofs.store.Store.put_on_stack.Goals as goal

pub returns-clause-put : goal.returns-clause-put
returns-clause-put c =
    put_on_stack c.args.self.now c.push_bytes.new.self c.copy_over.new.self c.pop.new.self c.pop-2.new.self c.args.n c.args.i _ c.requires.place c.in_ok-push_bytes.ensures.pushed
    (c.copy_over.ensures.stack ∙ ap (λ k. set c.push_bytes.new.self.stack c.args.i (get_or c.push_bytes.new.self.stack k [])) c.height-height.ensures) c.copy_over.ensures.cells c.copy_over.ensures.keeps c.pop.ensures.popped c.pop.ensures.cells c.pop.ensures.keeps c.pop-2.ensures.popped c.pop-2.ensures.cells c.pop-2.ensures.keeps
