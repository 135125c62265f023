use Rattle.std.proofs.Common.{◌+◌, sym, ap, refl, drop, get_or, arith}
use Rattle.tclv_reply.proofs.Laws.{read_on, refused_there, went_as, reads_refused}
use Rattle.tclv_ctl.specs.Switching.{Text}
use Rattle.tclv_ctl.specs.Returns.{naming, with_option, with_pairs, asks_of}
use Rattle.tclv_ctl.proofs.ReturnLemmas.{pair_next, pairs_end, went_gives}
use Rattle.tclv_ctl.proofs.returns.with_pairs.Goals as goal

pub returns-in-Err-clause-reads : goal.returns-in-Err-clause-reads
returns-in-Err-clause-reads c =
    let ps = c.args.pairs.now in
    let k = c.loop-k.k in
    let s = asks_of c.loop-k.found in
    let e = c.index-pairs-k.result in
    let h : Text × Text → _ = λ (x : Text × Text). with_option (naming x.0) x.0 x.1 s in
    let v = went_as _ c.loop-k.invariant.came (pair_next ps k e s (omega (arith, c.loop-k-test.true))) in
    let r = refused_there (h (get_or ps k e)) (with_pairs (drop (k + 1) ps)) v (h e) (ap h (sym c.index-pairs-k.is)) c.in-Err.ensures.reads in
    reads_refused r.0 r.1

pub loop-k-preserved : goal.loop-k-preserved
loop-k-preserved c =
    let ps = c.args.pairs.now in
    let k = c.loop-k.k in
    let s = asks_of c.loop-k.found in
    let e = c.index-pairs-k.result in
    let h : Text × Text → _ = λ (x : Text × Text). with_option (naming x.0) x.0 x.1 s in
    let v = went_as _ c.loop-k.invariant.came (pair_next ps k e s (omega (arith, c.loop-k-test.true))) in
    let r = read_on (h (get_or ps k e)) (with_pairs (drop (k + 1) ps)) v (h e) (ap h (sym c.index-pairs-k.is)) c.in-Ok.ensures.reads in
    record { came = went_as _ r.went (ap (with_pairs (drop (k + 1) ps)) (sym r.shown)); small = c.in-Ok.ensures.small }

pub returns-clause-reads : goal.returns-clause-reads
returns-clause-reads c =
    let s = asks_of c.loop-k.found in
    went_gives _ s c.loop-k.found c.loop-k.invariant.came (pairs_end c.args.pairs.now c.loop-k.k s (omega (arith, c.loop-k-test.false))) refl
