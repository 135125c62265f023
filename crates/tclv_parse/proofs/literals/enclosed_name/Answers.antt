use Rattle.std.proofs.Common.{◌≡◌, ◌++◌, suc, take, drop, Ok, ap, ap₂, sym, ◌∙◌}
use Rattle.tclv_text.specs.Cursors.{sign}
use Rattle.tclv_parse.specs.declared.runs.Run.TheVariants as run
use Rattle.tclv_parse.proofs.RunLaws.{passes-none, passes-one, run-shorter, later}
use Rattle.tclv_parse.proofs.Variables.{enclosed-step, enclosed-missing, enclosed-ends}
use Rattle.tclv_parse.proofs.literals.enclosed_name.Goals as goal

pub name-init : goal.name-init
name-init c = (0, passes-none run.Enclosed c.args.cursor.now)

pub name-preserved : goal.name-preserved
name-preserved c =
    let i = c.name.invariant in
    let step = enclosed-step (sign c.name.cursor) (λ z. c.in_default.not-End (c.peek.ensures ∙ z)) (λ z. c.in_default.not-CloseBrace (c.peek.ensures ∙ z)) in
    (suc i.0, passes-one run.Enclosed run.Enclosed run.Enclosed c.args.cursor.now c.name.cursor c.skip-in_default.new.self i.0 i.1 step c.skip-in_default.ensures)

pub name-smaller : goal.name-smaller
name-smaller c =
    let step = enclosed-step (sign c.name.cursor) (λ z. c.in_default.not-End (c.peek.ensures ∙ z)) (λ z. c.in_default.not-CloseBrace (c.peek.ensures ∙ z)) in
    run-shorter run.Enclosed run.Enclosed c.name.cursor c.skip-in_default.new.self step c.skip-in_default.ensures

pub up_to-requires : goal.up_to-requires
up_to-requires c =
    let i = c.name.invariant in
    (later c.here-start.result c.name.cursor i.0 (i.1.place ∙ ap (drop i.0) (sym c.here-start.ensures))).rest

pub returns-in-End : goal.returns-in-End
returns-in-End c = let i = c.name.invariant in enclosed-missing c.args.cursor.now c.name.cursor i.0 i.1 (sym c.peek.ensures ∙ c.in-End.is)

pub returns-in-CloseBrace : goal.returns-in-CloseBrace
returns-in-CloseBrace c =
    let i = c.name.invariant in
    let l = later c.here-start.result c.name.cursor i.0 (i.1.place ∙ ap (drop i.0) (sym c.here-start.ensures)) in
    let name : take i.0 c.args.cursor.now ≡ c.push.new.self = sym (c.in_ok-push-in-CloseBrace.ensures.ok ∙ ap₂ (λ x y. x ++ y) c.empty-name.ensures (c.up_to.ensures.text ∙ l.front ∙ ap (take i.0) c.here-start.ensures)) in
    enclosed-ends c.args.cursor.now c.name.cursor c.skip.new.self i.0 i.1 (sym c.peek.ensures ∙ c.in-CloseBrace.is) c.skip.ensures ∙ ap (λ x. Ok (x, c.skip.new.self)) name
