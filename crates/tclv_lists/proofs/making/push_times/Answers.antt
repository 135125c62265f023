use Rattle.std.proofs.Common.{◌≡◌, ◌-◌, ◌∙◌, List, ℕ, ◌++◌, take, drop, sym, ap, append-nil, arith}
use Rattle.tclv_reply.proofs.Laws.{grows_trans}
use Rattle.tclv_lists.proofs.MakingLemmas.{times_none, times_more}
use Rattle.tclv_lists.proofs.making.push_times.Goals as goal

pub returns-then-from-to-clause-pushed : goal.returns-then-from-to-clause-pushed
returns-then-from-to-clause-pushed c =
    let s = c.args.store.now.stack in
    let none : c.args.to - c.args.from ≡ 0 = omega arith in
    sym (ap (λ (w : List (List ℕ)). s ++ w) (times_none c.args.count (take (c.args.to - c.args.from) (drop c.args.from s)) (ap (λ (k : ℕ). take k (drop c.args.from s)) none)) ∙ append-nil s)

pub loop-turn-preserved : goal.loop-turn-preserved
loop-turn-preserved c = record {
  grows = grows_trans c.args.store.now c.loop-turn.store c.push_words.new.store c.loop-turn.invariant.grows c.in_ok-push_words.ensures.grows;
  pushed = times_more c.args.store.now.stack c.loop-turn.store.stack c.push_words.new.store.stack c.args.from c.args.to c.loop-turn.turn (omega arith) (omega arith) c.loop-turn.invariant.pushed c.in_ok-push_words.ensures.pushed;
}
