use Rattle.std.proofs.Common.{◌+◌, ◌*◌, ◌<◌, ◌^◌, drop}
use Rattle.tclv_reply.proofs.Laws.{Went}
use Rattle.tclv_ctl.specs.Returns.{Asks, with_words, plain_return, asks_of}
use Rattle.tclv_ctl.proofs.returns.read_options.Given as goal

-- So many options are read, and the words behind are still to be read.
abbrev pub invariant-loop-k : goal.invariant-loop-k
invariant-loop-k l =
    let s = l.initial.store.stack in
    record { came : Went {A = Asks} (with_words (drop l.from s) plain_return) (with_words (drop (l.from + 2 * l.k) s) (asks_of l.wanted)) l.initial.store l.store; small : l.wanted.level < 2 ^ 63 }
