use Rattle.std.proofs.Common.{rules, refl, ap, ◌∙◌, ◌-◌, ◌+◌, ◌<◌, ◌≡◌, length, sym, subst, arith, List}
use Rattle.tclv_engine.specs.State.{Text}
use Rattle.tclv_engine.specs.declared.plans.Way.TheVariants as way
use Rattle.tclv_engine.proofs.WordLemmas.{same_then}
use Rattle.tclv_control.specs.IfSteps.{IsRead, with_left}
use Rattle.tclv_control.proofs.IfLemmas.{reading_on, read_last, read_end}
use Rattle.tclv_control.proofs.if_plans.read_clauses.Goals as goal

pub returns-in-Last-clause-clauses : goal.returns-in-Last-clause-clauses
returns-in-Last-clause-clauses g c =
    let stack = c.args.machine.now.values.store.stack in
    let was = c.loop-turn.invariant in
    let turn : c.loop-turn.turn < length stack = omega (arith, c.loop-turn-test.true, c.height-turn-end.ensures) in
    let P : List Text → Type 0 = λ s. IsRead s c.loop-turn.word c.loop-turn.items.items c.read_clause.new.items.items c.in_ok-at.field-0 in
    let read = subst P was.stack c.in_ok-at.ensures.left in
    read_last stack (record { items = c.read_clause.new.items; last = c.in-Last.last }) (length stack - (c.loop-turn.turn + 1))
    ∙ sym (reading_on stack c.args.first c.loop-turn.turn c.loop-turn.word c.loop-turn.items.items c.read_clause.new.items.items _ turn read was.whole
    ∙ ap (with_left (length stack - (c.loop-turn.turn + 1)) stack c.read_clause.new.items.items) c.in-Last.is)

pub loop-turn-preserved : goal.loop-turn-preserved
loop-turn-preserved g c =
    let stack = c.args.machine.now.values.store.stack in
    let was = c.loop-turn.invariant in
    let turn : c.loop-turn.turn < length stack = omega (arith, c.loop-turn-test.true, c.height-turn-end.ensures) in
    let P : List Text → Type 0 = λ s. IsRead s c.loop-turn.word c.loop-turn.items.items c.read_clause.new.items.items c.in_ok-at.field-0 in
    let read = subst P was.stack c.in_ok-at.ensures.left in
    record {
      stack = c.in_ok-at.ensures.stack ∙ was.stack;
      same = same_then c.args.machine.now c.loop-turn.machine c.read_clause.new.machine was.same c.in_ok-at.ensures.same;
      inside = search (rules, was.stack, c.in_ok-at.ensures.items);
      word_in = search (rules, was.stack, c.in_ok-at.ensures.inside);
      whole = reading_on stack c.args.first c.loop-turn.turn c.loop-turn.word c.loop-turn.items.items c.read_clause.new.items.items _ turn read was.whole
          ∙ ap (with_left (length stack - (c.loop-turn.turn + 1)) stack c.read_clause.new.items.items) c.in-Another.is;
    }

pub returns-clause-clauses : goal.returns-clause-clauses
returns-clause-clauses g c =
    let stack = c.args.machine.now.values.store.stack in
    let was = c.loop-turn.invariant in
    let end : length stack - c.loop-turn.turn ≡ 0 = omega (arith, c.loop-turn-test.false, c.height-turn-end.ensures) in
    read_last stack (record { items = c.loop-turn.items; last = way.Nothing }) (length stack - c.loop-turn.turn)
    ∙ sym (was.whole ∙ read_end stack c.loop-turn.items.items (length stack - c.loop-turn.turn) c.loop-turn.word way.Nothing end refl)
