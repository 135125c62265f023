use Rattle.std.proofs.Common.{rules, refl, ◌≡◌, ◌<◌, ◌≤◌, ◌++◌, length}
use Rattle.tclv_engine.proofs.WordLemmas.{same_then}
use Rattle.tclv_control.specs.Outcomes.{option_words}
use Rattle.tclv_control.proofs.CatchLemmas.{pair_step, pair_end}
use Rattle.tclv_control.proofs.catch_plans.push_pairs.Goals as goal

pub loop-k-init : goal.loop-k-init
loop-k-init g c = record {
  pushed = refl;
  same = record { variables = record { vars = refl; cells = refl }; own = refl; units = refl; depth = refl; events = refl };
}

pub loop-k-preserved : goal.loop-k-preserved
loop-k-preserved g c =
    let inside : c.loop-k.k < length c.args.pairs.now = search rules in
    record {
      pushed = pair_step (c.args.machine.now.values.store.stack ++ option_words c.args.pairs.now) c.loop-k.machine.values.store.stack c.push_pair.new.machine.values.store.stack c.args.pairs.now c.loop-k.k c.pair_at.result.now inside
          c.pair_at.ensures c.loop-k.invariant.pushed c.in_ok-push_pair.ensures.pushed;
      same = same_then c.args.machine.now c.loop-k.machine c.push_pair.new.machine c.loop-k.invariant.same c.push_pair.ensures.same;
    }

pub returns-clause-pushed : goal.returns-clause-pushed
returns-clause-pushed g c =
    let ended : length c.args.pairs.now ≤ c.loop-k.k = search rules in
    pair_end (c.args.machine.now.values.store.stack ++ option_words c.args.pairs.now) c.loop-k.machine.values.store.stack c.args.pairs.now c.loop-k.k ended c.loop-k.invariant.pushed
