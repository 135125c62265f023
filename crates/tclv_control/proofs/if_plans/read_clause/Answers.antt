use Rattle.std.proofs.Common.{◌∙◌, ◌+◌, ◌<◌, ◌≡◌, ◌∷◌, [], length, sym, subst, arith, List}
use Rattle.tclv_engine.specs.State.{Text}
use Rattle.tclv_engine.specs.Plans.{placed, lead_of}
use Rattle.tclv_control.specs.IfRows.{preceded, leads, behind_test, clauses}
use Rattle.tclv_control.specs.IfSteps.{sought_of, left_of}
use Rattle.tclv_control.proofs.IfLemmas.{read_none, read_some}
use Rattle.tclv_control.proofs.if_plans.read_clause.Goals as goal

pub returns-then-test-height-clause-left : goal.returns-then-test-height-clause-left
returns-then-test-height-clause-left g c n =
    let stack = c.args.machine.now.values.store.stack in
    read_none stack c.args.items.now.items n c.args.word (omega (arith, c.if-test-height.true, c.place_behind-test.ensures, c.height.ensures))

pub returns-clause-left : goal.returns-clause-left
returns-clause-left g c n =
    let stack = c.args.machine.now.values.store.stack in
    let found = c.in_ok-found.found in
    let way = c.in_ok-way.way in
    let behind = c.in_ok-way.behind in
    let test = c.place_behind-test.result in
    let is = c.place_behind-test.ensures in
    let text = placed stack test in
    let more : c.args.word + 1 < length stack = omega (arith, c.requires.word, λ (e : c.args.word + 1 ≡ length stack). c.if-test-height.false (is ∙ e ∙ sym c.height.ensures)) in
    let P : List Text → Type 0 = λ s. preceded (leads text (lead_of s way) ∷ []) (left_of n s behind) ≡ behind_test (clauses n) text (sought_of s found) in
    let led = subst P c.in_ok-found.ensures.stack (c.in_ok-way.ensures.left n text) in
    read_some stack c.args.items.now.items c.push.new.self.items (record { test = test; way = way }) n c.args.word (sought_of stack found) (left_of n stack behind) more is c.in_ok-push.ensures.items c.in_ok-found.ensures.found led
