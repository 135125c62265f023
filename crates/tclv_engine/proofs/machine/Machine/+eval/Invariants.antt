use Rattle.std.proofs.Common.{◌≡◌, ◌+◌, ◌*◌, [], length, drop, true}
use Rattle.tclv_engine.specs.Results.{plain, outcome}
use Rattle.tclv_engine.specs.Words.{words, joined, part_value}
use Rattle.tclv_engine.specs.Evaluation.{whole, sequence, choose}
use Rattle.tclv_engine.specs.Answers.{outer, Over, Keeps, as_outcome, stacked, on_top, last_of}
use Rattle.tclv_engine.specs.Plans.{alternatives_of, lead_of}
use Rattle.tclv_engine.specs.Instructions.{run, run_turn}
use Rattle.tclv_engine.proofs.RunLemmas.{Running}
use Rattle.tclv_engine.specs.EachLoops.{each_turn}
use Rattle.tclv_engine.specs.EachSteps.{groups_at}
use Rattle.tclv_engine.proofs.Walks.{Walk}
use Rattle.tclv_engine.proofs.LoopLemmas.{Turning}
use Rattle.tclv_engine.proofs.EachLemmas.{Eaching}
use Rattle.tclv_engine.proofs.machine.Machine.+eval.Given as goal

abbrev pub decreases-command : goal.decreases-command
decreases-command g l = 65536 * l.self.now.units + 1

abbrev pub decreases-commands : goal.decreases-commands
decreases-commands g l = 65536 * l.self.now.units + 2

abbrev pub decreases-script : goal.decreases-script
decreases-script g l = 65536 * l.self.now.units + 3

abbrev pub decreases-script_at : goal.decreases-script_at
decreases-script_at g l = 65536 * l.self.now.units + 10

abbrev pub decreases-call : goal.decreases-call
decreases-call g l = 65536 * l.self.now.units + 44000

abbrev pub decreases-element : goal.decreases-element
decreases-element g l = 65536 * l.self.now.units + 8 * l.levels + 4

abbrev pub decreases-part : goal.decreases-part
decreases-part g l = 65536 * l.self.now.units + 8 * l.levels + 5

abbrev pub decreases-substitute : goal.decreases-substitute
decreases-substitute g l = 65536 * l.self.now.units + 8 * l.levels + 7

abbrev pub decreases-word : goal.decreases-word
decreases-word g l = 65536 * l.self.now.units + 1000

abbrev pub decreases-words : goal.decreases-words
decreases-words g l = 65536 * l.self.now.units + 1001

abbrev pub invariant-commands-loop-command : goal.invariant-commands-loop-command
invariant-commands-loop-command g l =
    Walk as_outcome l.fn.self (outer (g.O.Outside.told l.fn.out) (g.O.Outside.torn l.fn.out)) (g.O.Outside.faults l.fn.out)
    l.self (outer (g.O.Outside.told l.out) (g.O.Outside.torn l.out)) (g.O.Outside.faults l.out)
    (Over 1 l.fn.self.values.store.stack l.self.values.store.stack)
    (g.H.Host.fits l.self.own (g.O.Outside.told l.out) ≡ true)
    (λ st. sequence g.H.Host.given (whole g.H.Host.given) (plain []) l.commands l.fault st)
    (λ st. sequence g.H.Host.given (whole g.H.Host.given) (outcome l.last (last_of l.self.values.store.stack)) (drop l.command-index l.commands) l.fault st)

abbrev pub invariant-words-loop-word : goal.invariant-words-loop-word
invariant-words-loop-word g l =
    Walk (stacked l.fn.self.values.store.stack) l.fn.self (outer (g.O.Outside.told l.fn.out) (g.O.Outside.torn l.fn.out)) (g.O.Outside.faults l.fn.out)
    l.self (outer (g.O.Outside.told l.out) (g.O.Outside.torn l.out)) (g.O.Outside.faults l.out)
    (Keeps l.fn.self.values.store.stack l.self.values.store.stack)
    (g.H.Host.fits l.self.own (g.O.Outside.told l.out) ≡ true)
    (λ st. words (whole g.H.Host.given) [] l.words st)
    (λ st. words (whole g.H.Host.given) (drop (length l.fn.self.values.store.stack) l.self.values.store.stack) (drop l.word-index l.words) st)

abbrev pub invariant-substitute-loop-part : goal.invariant-substitute-loop-part
invariant-substitute-loop-part g l =
    Walk on_top l.fn.self (outer (g.O.Outside.told l.fn.out) (g.O.Outside.torn l.fn.out)) (g.O.Outside.faults l.fn.out)
    l.self (outer (g.O.Outside.told l.out) (g.O.Outside.torn l.out)) (g.O.Outside.faults l.out)
    (l.self.values.store.stack ≡ l.fn.self.values.store.stack)
    (g.H.Host.fits l.self.own (g.O.Outside.told l.out) ≡ true)
    (λ st. joined (part_value l.levels (whole g.H.Host.given)) [] l.parts st)
    (λ st. joined (part_value l.levels (whole g.H.Host.given)) l.text (drop l.part-index l.parts) st)

abbrev pub decreases-instruction : goal.decreases-instruction
decreases-instruction g l = 65536 * l.self.now.units + 2001

abbrev pub decreases-operate : goal.decreases-operate
decreases-operate g l = 65536 * l.self.now.units + 2000

abbrev pub invariant-expression-walk : goal.invariant-expression-walk
invariant-expression-walk g l =
    Walk on_top l.fn.self (outer (g.O.Outside.told l.fn.out) (g.O.Outside.torn l.fn.out)) (g.O.Outside.faults l.fn.out)
    l.self (outer (g.O.Outside.told l.out) (g.O.Outside.torn l.out)) (g.O.Outside.faults l.out)
    (Running l.rest l.fn.self.values.store.stack l.self.values.store.stack)
    (g.H.Host.fits l.self.own (g.O.Outside.told l.out) ≡ true)
    (λ st. run (whole g.H.Host.given) l.instructions 0 [] st)
    (λ st. run (whole g.H.Host.given) l.rest 0 (drop (length l.fn.self.values.store.stack) l.self.values.store.stack) st)

abbrev pub decreases-expression-walk : goal.decreases-expression-walk
decreases-expression-walk g l = length l.rest

abbrev pub decreases-expression : goal.decreases-expression
decreases-expression g l = 65536 * l.self.now.units + 40000

abbrev pub decreases-test : goal.decreases-test
decreases-test g l = 65536 * l.self.now.units + 40001

abbrev pub decreases-body : goal.decreases-body
decreases-body g l = 65536 * l.self.now.units + 11

abbrev pub decreases-between_turns : goal.decreases-between_turns
decreases-between_turns g l = 65536 * l.self.now.units + 12

abbrev pub decreases-paid_body : goal.decreases-paid_body
decreases-paid_body g l = 65536 * l.self.now.units + 41000

abbrev pub decreases-turn : goal.decreases-turn
decreases-turn g l = 65536 * l.self.now.units + 41100

abbrev pub decreases-turns : goal.decreases-turns
decreases-turns g l = 65536 * l.self.now.units + 41300

abbrev pub decreases-repeated : goal.decreases-repeated
decreases-repeated g l = 65536 * l.self.now.units + 41400

abbrev pub invariant-turns-turns : goal.invariant-turns-turns
invariant-turns-turns g l =
    Turning (run_turn (whole g.H.Host.given) l.test l.next l.body) l.fn.self (outer (g.O.Outside.told l.fn.out) (g.O.Outside.torn l.fn.out)) (g.O.Outside.faults l.fn.out)
    l.self (outer (g.O.Outside.told l.out) (g.O.Outside.torn l.out)) (g.O.Outside.faults l.out)
    (g.H.Host.fits l.self.own (g.O.Outside.told l.out) ≡ true)

abbrev pub decreases-turns-turns : goal.decreases-turns-turns
decreases-turns-turns g l = l.self.units

abbrev pub decreases-started_loop : goal.decreases-started_loop
decreases-started_loop g l = 65536 * l.self.now.units + 41500

abbrev pub decreases-condition : goal.decreases-condition
decreases-condition g l = 65536 * l.self.now.units + 40002

abbrev pub decreases-each_turn : goal.decreases-each_turn
decreases-each_turn g l = 65536 * l.self.now.units + 41000

abbrev pub decreases-each_turns : goal.decreases-each_turns
decreases-each_turns g l = 65536 * l.self.now.units + 41100

abbrev pub decreases-each_of : goal.decreases-each_of
decreases-each_of g l = 65536 * l.self.now.units + 41150

abbrev pub invariant-each_turns-loop-turn : goal.invariant-each_turns-loop-turn
invariant-each_turns-loop-turn g l =
    Eaching (each_turn (whole g.H.Host.given) l.script (groups_at l.fn.self.values.store.stack l.groups)) l.keep l.count l.fn.self (outer (g.O.Outside.told l.fn.out) (g.O.Outside.torn l.fn.out)) (g.O.Outside.faults l.fn.out)
    l.turn l.self (outer (g.O.Outside.told l.out) (g.O.Outside.torn l.out)) (g.O.Outside.faults l.out)
    (g.H.Host.fits l.self.own (g.O.Outside.told l.out) ≡ true)

-- ---- plans

abbrev pub decreases-value_at : goal.decreases-value_at
decreases-value_at g l = 65536 * l.self.now.units + 41000

abbrev pub decreases-lead : goal.decreases-lead
decreases-lead g l = 65536 * l.self.now.units + 41000

abbrev pub decreases-run_branches : goal.decreases-run_branches
decreases-run_branches g l = 65536 * l.self.now.units + 41100

abbrev pub decreases-run_inner : goal.decreases-run_inner
decreases-run_inner g l = 65536 * l.self.now.units + 41500

abbrev pub decreases-body_of : goal.decreases-body_of
decreases-body_of g l = 65536 * l.self.now.units + 41200

abbrev pub decreases-body_inside : goal.decreases-body_inside
decreases-body_inside g l = 65536 * l.self.now.units + 41100

abbrev pub decreases-script_at_level : goal.decreases-script_at_level
decreases-script_at_level g l = 65536 * l.self.now.units + 41200

abbrev pub decreases-around : goal.decreases-around
decreases-around g l = 65536 * l.self.now.units + 4 * l.left + 42000

abbrev pub decreases-perform : goal.decreases-perform
decreases-perform g l = 65536 * l.self.now.units + 4 * l.left + 42001

abbrev pub invariant-run_branches-loop-i : goal.invariant-run_branches-loop-i
invariant-run_branches-loop-i g l =
    let stack = l.fn.self.values.store.stack in
    Walk as_outcome l.fn.self (outer (g.O.Outside.told l.fn.out) (g.O.Outside.torn l.fn.out)) (g.O.Outside.faults l.fn.out)
    l.self (outer (g.O.Outside.told l.out) (g.O.Outside.torn l.out)) (g.O.Outside.faults l.out)
    (l.self.values.store.stack ≡ stack)
    (g.H.Host.fits l.self.own (g.O.Outside.told l.out) ≡ true)
    (λ st. choose (whole g.H.Host.given) (alternatives_of stack l.branches) (lead_of stack l.last) st)
    (λ st. choose (whole g.H.Host.given) (drop l.i (alternatives_of stack l.branches)) (lead_of stack l.last) st)
