use Rattle.std.proofs.Common.{◌≡◌, ◌<◌, ◌≤◌, cond, ◌++◌, length, take, refl, sym, ◌∙◌, ap, subst, arith, Ok, Err}
use Rattle.std.specs.Prelude.{IsTrue}
use Rattle.tclv_io.specs.World.{can_read, can_close, taken_from}
use Rattle.tclv_shell.proofs.Reading.{Reading, goes_on, ended, too_many, started, told_on, some_same, was_told, shown_read, still_open, written_back, sees_same, same_others}
use Rattle.tclv_shell.specs.Halts.{seen}
use Rattle.tclv_shell.proofs.script_files.read_all.Goals as goal

pub loop-out-init : goal.loop-out-init
loop-out-init g c = record {
  told = λ w e. (w, e, subst (λ b. Reading w w c.args.file b) (sym c.new-bytes.ensures.items) (started w c.args.file c.requires.standard (c.requires.is_open w e)));
  shown = refl;
  torn = refl;
  faults = refl;
  block = omega (arith, c.in_ok-block.ensures.block);
}

pub read-requires : goal.read-requires
read-requires g c = λ v e.
    let w = was_told (g.O.Outside.told c.args.out.now) (g.O.Outside.told c.loop-out.out) v c.loop-out.invariant.shown e in
    let r = c.loop-out.invariant.told w.0 w.1 in
    subst (λ x. IsTrue (can_read x c.args.file)) (some_same r.0 v (sym r.1 ∙ e)) r.2.can

pub returns-in-Err-clause-same : goal.returns-in-Err-clause-same
returns-in-Err-clause-same g c = sees_same (seen (g.O.Outside.told c.args.out.now) (g.O.Outside.faults c.args.out.now) (g.O.Outside.torn c.args.out.now)) (seen (g.O.Outside.told c.read.new.self) (g.O.Outside.faults c.read.new.self) (g.O.Outside.torn c.read.new.self)) (shown_read c.args.file (Err c.in-Err.field-0) (g.O.Outside.told c.loop-out.out) (g.O.Outside.told c.read.new.self) c.in-Err.ensures.world ∙ c.loop-out.invariant.shown) (c.in-Err.ensures.torn ∙ c.loop-out.invariant.torn)

pub returns-then-count-eq0-clause-whole : goal.returns-then-count-eq0-clause-whole
returns-then-count-eq0-clause-whole g c = λ w e.
    let r = c.loop-out.invariant.told w e in
    let some : 0 < length c.read.new.into = omega (arith, c.read.auto.into, c.deref_mut.ensures.len, c.loop-out.invariant.block) in
    ended w r.0 c.args.file c.in-Ok.count c.loop-out.bytes.items c.read.new.into r.2 (c.in-Ok.ensures.answer r.0 r.1) c.if-count-eq0.true some

pub returns-then-count-eq0-clause-same : goal.returns-then-count-eq0-clause-same
returns-then-count-eq0-clause-same g c = sees_same (seen (g.O.Outside.told c.args.out.now) (g.O.Outside.faults c.args.out.now) (g.O.Outside.torn c.args.out.now)) (seen (g.O.Outside.told c.read.new.self) (g.O.Outside.faults c.read.new.self) (g.O.Outside.torn c.read.new.self)) (shown_read c.args.file (Ok c.in-Ok.count) (g.O.Outside.told c.loop-out.out) (g.O.Outside.told c.read.new.self) c.in-Ok.ensures.world ∙ c.loop-out.invariant.shown) (c.in-Ok.ensures.torn ∙ c.loop-out.invariant.torn)

pub returns-then-count-eq0-clause-still_open : goal.returns-then-count-eq0-clause-still_open
returns-then-count-eq0-clause-still_open g c = λ w e h u s.
    let r = c.loop-out.invariant.told w e in
    let now = told_on (taken_from c.args.file c.in-Ok.count) (g.O.Outside.told c.loop-out.out) (g.O.Outside.told c.read.new.self) r.0 c.in-Ok.ensures.world r.1 in
    still_open w r.0 u c.args.file c.in-Ok.count c.loop-out.bytes.items r.2 h (some_same (taken_from c.args.file c.in-Ok.count r.0) u (sym now ∙ s))

pub returns-then-is_err-clause-same : goal.returns-then-is_err-clause-same
returns-then-is_err-clause-same g c = sees_same (seen (g.O.Outside.told c.args.out.now) (g.O.Outside.faults c.args.out.now) (g.O.Outside.torn c.args.out.now)) (seen (g.O.Outside.told c.read.new.self) (g.O.Outside.faults c.read.new.self) (g.O.Outside.torn c.read.new.self)) (shown_read c.args.file (Ok c.in-Ok.count) (g.O.Outside.told c.loop-out.out) (g.O.Outside.told c.read.new.self) c.in-Ok.ensures.world ∙ c.loop-out.invariant.shown) (c.in-Ok.ensures.torn ∙ c.loop-out.invariant.torn)

pub loop-out-preserved : goal.loop-out-preserved
loop-out-preserved g c =
    let fits : c.in-Ok.count ≤ length c.read.new.into = omega (arith, c.in-Ok.ensures.bound) in
    let below : c.in-Ok.count ≤ c.loop-out.block.len = omega (arith, c.in-Ok.ensures.bound, c.read.auto.into, c.deref_mut.ensures.len) in
    let more : c.extend_from_slice.new.self.items ≡ c.loop-out.bytes.items ++ take c.in-Ok.count c.read.new.into =
    c.extend_from_slice.ensures.items
    ∙ ap (λ b. cond b (c.loop-out.bytes.items ++ take c.in-Ok.count c.deref.result.now) c.loop-out.bytes.items) c.if-is_err.ensures.negation
    ∙ ap (λ xs. c.loop-out.bytes.items ++ take c.in-Ok.count xs) c.deref.ensures.value
    ∙ ap (λ xs. c.loop-out.bytes.items ++ xs) (written_back c.read.new.into c.loop-out.block.items c.loop-out.block.len c.in-Ok.count fits below) in
    record {
      told = λ w e.
          let r = c.loop-out.invariant.told w e in
          let v = taken_from c.args.file c.in-Ok.count r.0 in (
            v,
            told_on (taken_from c.args.file c.in-Ok.count) (g.O.Outside.told c.loop-out.out) (g.O.Outside.told c.read.new.self) r.0 c.in-Ok.ensures.world r.1,
            subst (λ b. Reading w v c.args.file b) (sym more) (goes_on w r.0 c.args.file c.in-Ok.count c.loop-out.bytes.items c.read.new.into r.2 (c.in-Ok.ensures.answer r.0 r.1)),
          );
      shown = shown_read c.args.file (Ok c.in-Ok.count) (g.O.Outside.told c.loop-out.out) (g.O.Outside.told c.read.new.self) c.in-Ok.ensures.world ∙ c.loop-out.invariant.shown;
      torn = c.in-Ok.ensures.torn ∙ c.loop-out.invariant.torn;
      faults = c.in-Ok.ensures.cause ∙ c.loop-out.invariant.faults;
      block = c.loop-out.invariant.block;
    }

pub returns-clause-whole : goal.returns-clause-whole
returns-clause-whole g c = λ w e.
    let r = c.loop-out.invariant.told w e in
    too_many w r.0 c.args.file c.loop-out.bytes.items r.2 (omega (arith, c.loop-out-test.false, c.len.ensures))

pub returns-clause-still_open : goal.returns-clause-still_open
returns-clause-still_open g c = λ w e h u s.
    let r = c.loop-out.invariant.told w e in
    subst (λ u. IsTrue (can_close u c.args.file)) (some_same r.0 u (sym r.1 ∙ s)) (r.2.close h)

pub returns-then-count-eq0-clause-others : goal.returns-then-count-eq0-clause-others
returns-then-count-eq0-clause-others g c =
    same_others c.args.file (g.O.Outside.told c.args.out.now) (g.O.Outside.told c.read.new.self)
    (shown_read c.args.file (Ok c.in-Ok.count) (g.O.Outside.told c.loop-out.out) (g.O.Outside.told c.read.new.self) c.in-Ok.ensures.world ∙ c.loop-out.invariant.shown)
    (λ w e.
    let r = c.loop-out.invariant.told w e in (
      taken_from c.args.file c.in-Ok.count r.0,
      told_on (taken_from c.args.file c.in-Ok.count) (g.O.Outside.told c.loop-out.out) (g.O.Outside.told c.read.new.self) r.0 c.in-Ok.ensures.world r.1,
      (goes_on w r.0 c.args.file c.in-Ok.count c.loop-out.bytes.items c.read.new.into r.2 (c.in-Ok.ensures.answer r.0 r.1)).others,
    ))

pub returns-clause-others : goal.returns-clause-others
returns-clause-others g c =
    same_others c.args.file (g.O.Outside.told c.args.out.now) (g.O.Outside.told c.loop-out.out) c.loop-out.invariant.shown
    (λ w e. let r = c.loop-out.invariant.told w e in (r.0, r.1, r.2.others))
