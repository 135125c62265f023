use Rattle.std.proofs.Common.{◌≡◌, suc, drop, take, Some, None, ap, sym, ◌∙◌}
use Rattle.tclv_text.specs.Cursors.{sign}
use Rattle.tclv_parse.specs.Runs.{step, run_len}
use Rattle.tclv_parse.proofs.RunLaws.{passes-none, passes-one, passes-all, run-shorter, later, none-of}
use Rattle.tclv_parse.proofs.runs.take_run.Goals as goal

pub run-init : goal.run-init
run-init c = (0, passes-none c.args.run c.args.cursor.now)

pub run-preserved : goal.run-preserved
run-preserved c =
    let i = c.run.invariant in
    let e : step c.run.end (sign c.run.cursor) ≡ Some c.in-Some.next = ap (step c.run.end) (sym c.peek.ensures) ∙ sym c.step.ensures ∙ c.in-Some.is in
    (suc i.0, passes-one c.args.run c.run.end c.in-Some.next c.args.cursor.now c.run.cursor c.skip.new.self i.0 i.1 e c.skip.ensures)

pub run-smaller : goal.run-smaller
run-smaller c =
    let e : step c.run.end (sign c.run.cursor) ≡ Some c.in-Some.next = ap (step c.run.end) (sym c.peek.ensures) ∙ sym c.step.ensures ∙ c.in-Some.is in
    run-shorter c.run.end c.in-Some.next c.run.cursor c.skip.new.self e c.skip.ensures

pub up_to-requires : goal.up_to-requires
up_to-requires c =
    let i = c.run.invariant in
    let none : step c.run.end (sign c.run.cursor) ≡ None = ap (step c.run.end) (sym c.peek.ensures) ∙ sym c.step.ensures ∙ none-of c.step.result c.in_default.not-Some in
    let ended = passes-all c.args.run c.run.end c.args.cursor.now c.run.cursor i.0 i.1 none in
    (later c.here-start.result c.run.cursor (run_len c.args.run c.args.cursor.now) (ended.place ∙ ap (drop (run_len c.args.run c.args.cursor.now)) (sym c.here-start.ensures))).rest

pub returns-clause-text : goal.returns-clause-text
returns-clause-text c =
    let i = c.run.invariant in
    let n = run_len c.args.run c.args.cursor.now in
    let none : step c.run.end (sign c.run.cursor) ≡ None = ap (step c.run.end) (sym c.peek.ensures) ∙ sym c.step.ensures ∙ none-of c.step.result c.in_default.not-Some in
    let ended = passes-all c.args.run c.run.end c.args.cursor.now c.run.cursor i.0 i.1 none in
    c.up_to.ensures.text ∙ (later c.here-start.result c.run.cursor n (ended.place ∙ ap (drop n) (sym c.here-start.ensures))).front ∙ ap (take n) c.here-start.ensures

pub returns-clause-end : goal.returns-clause-end
returns-clause-end c =
    let i = c.run.invariant in
    let none : step c.run.end (sign c.run.cursor) ≡ None = ap (step c.run.end) (sym c.peek.ensures) ∙ sym c.step.ensures ∙ none-of c.step.result c.in_default.not-Some in
    (passes-all c.args.run c.run.end c.args.cursor.now c.run.cursor i.0 i.1 none).end

pub returns-clause-rest : goal.returns-clause-rest
returns-clause-rest c =
    let i = c.run.invariant in
    let none : step c.run.end (sign c.run.cursor) ≡ None = ap (step c.run.end) (sym c.peek.ensures) ∙ sym c.step.ensures ∙ none-of c.step.result c.in_default.not-Some in
    (passes-all c.args.run c.run.end c.args.cursor.now c.run.cursor i.0 i.1 none).place
