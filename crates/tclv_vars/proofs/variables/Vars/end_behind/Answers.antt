use Rattle.std.proofs.Common.{arith}
use Rattle.tclv_vars.proofs.EndingLemmas.{none_ended, one_more, last_left, texts_left}
use Rattle.tclv_vars.proofs.variables.Vars.end_behind.Goals as goal

pub loop-self-init : goal.loop-self-init
loop-self-init c = none_ended c.args.count c.args.self.now c.args.store.now.cells c.args.store.now.stack

pub loop-self-preserved : goal.loop-self-preserved
loop-self-preserved c =
    one_more c.args.count c.args.self.now c.loop-self.self c.end_last.new.self c.args.store.now.cells c.loop-self.store.cells c.end_last.new.store.cells
    c.args.store.now.stack c.loop-self.store.stack c.end_last.new.store.stack c.loop-self.invariant (omega (arith, c.loop-self-test.true, c.frame_count.ensures.count))
    c.end_last.ensures.ended c.end_last.ensures.texts c.end_last.ensures.fewer c.end_last.ensures.stack c.end_last.ensures.tied

pub returns-clause-ended : goal.returns-clause-ended
returns-clause-ended c =
    last_left c.args.count c.args.self.now c.loop-self.self c.args.store.now.cells c.loop-self.store.cells c.args.store.now.stack c.loop-self.store.stack c.loop-self.invariant
    (omega (arith, c.loop-self-test.false, c.frame_count.ensures.count))

pub returns-clause-texts : goal.returns-clause-texts
returns-clause-texts c =
    texts_left c.args.count c.args.self.now c.loop-self.self c.args.store.now.cells c.loop-self.store.cells c.args.store.now.stack c.loop-self.store.stack c.loop-self.invariant
    (omega (arith, c.loop-self-test.false, c.frame_count.ensures.count))
