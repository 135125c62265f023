use Rattle.std.proofs.Common.{◌≡◌, ◌∙◌, ◌+◌, ◌*◌, ◌<◌, sym, ap, refl, List, [], ℕ, drop, length, get_or, arith}
use Rattle.tclv_model.specs.Rows.{Answer}
use Rattle.tclv_reply.proofs.Laws.{read_on, refused_there, went_as, reads_refused}
use Rattle.tclv_ctl.specs.Switching.{Text}
use Rattle.tclv_ctl.specs.Returns.{Asks, naming, with_word, with_words, asks_of}
use Rattle.tclv_ctl.proofs.ReturnLemmas.{words_next, words_end, went_gives}
use Rattle.tclv_ctl.proofs.returns.read_options.Goals as goal

pub returns-in-Err-clause-reads : goal.returns-in-Err-clause-reads
returns-in-Err-clause-reads c =
    let s = c.args.store.now.stack in
    let at = c.args.from + 2 * c.loop-k.k in
    let x = asks_of c.loop-k.wanted in
    let w = c.loop-k.invariant.came in
    let f : List Text → Answer Asks = λ (q : List Text). with_word (naming (get_or q at [])) (get_or q at []) (get_or q (at + 1) []) x in
    let inside : at + 1 < length s = omega (arith, c.loop-k-test.true, c.height.ensures, c.requires) in
    let v = went_as _ w (words_next s at x inside) in
    let r = refused_there (f s) (with_words (drop (at + 2) s)) v (f c.loop-k.store.stack) (ap f (sym w.same)) c.in-Err.ensures.reads in
    reads_refused r.0 r.1

pub loop-k-preserved : goal.loop-k-preserved
loop-k-preserved c =
    let s = c.args.store.now.stack in
    let at = c.args.from + 2 * c.loop-k.k in
    let x = asks_of c.loop-k.wanted in
    let w = c.loop-k.invariant.came in
    let f : List Text → Answer Asks = λ (q : List Text). with_word (naming (get_or q at [])) (get_or q at []) (get_or q (at + 1) []) x in
    let inside : at + 1 < length s = omega (arith, c.loop-k-test.true, c.height.ensures, c.requires) in
    let next : at + 2 ≡ c.args.from + 2 * (c.loop-k.k + 1) = omega arith in
    let v = went_as _ w (words_next s at x inside) in
    let r = read_on (f s) (with_words (drop (at + 2) s)) v (f c.loop-k.store.stack) (ap f (sym w.same)) c.in-Ok.ensures.reads in
    record {
      came = went_as _ r.went (ap (with_words (drop (at + 2) s)) (sym r.shown) ∙ ap (λ (i : ℕ). with_words (drop i s) (asks_of c.in-Ok.more)) next);
      small = c.in-Ok.ensures.small;
    }

pub returns-clause-reads : goal.returns-clause-reads
returns-clause-reads c =
    let s = c.args.store.now.stack in
    let x = asks_of c.loop-k.wanted in
    let at = c.args.from + 2 * c.loop-k.k in
    went_gives _ x c.loop-k.wanted c.loop-k.invariant.came (words_end s at x (omega (arith, c.loop-k-test.false, c.height.ensures, c.loop-k.auto.k-end))) refl
