-- Loops where few units are left: evaluators that agree there give the same, and no unit comes back.
use Rattle.std.proofs.Common.{◌+◌, ◌==◌, ℕ, zero, suc, Bool, arith, ap}
use Rattle.tclv_parse.specs.declared.tree.Script.{Script}
use Rattle.tclv_parse.specs.Grammar.{commands}
use Rattle.tclv_exprp.specs.declared.tree.ExprTree.{ExprTree}
use Rattle.tclv_engine.specs.State.{Text, State}
use Rattle.tclv_engine.specs.Results.{Res, Outcome}
use Rattle.tclv_engine.specs.Units.{take_unit}
use Rattle.tclv_engine.specs.Words.{Evaluator}
use Rattle.tclv_engine.specs.Loops.{Turn, turn_ending, body, paid_body, between_ending, between_turns, turns, loop}
use Rattle.tclv_engine.specs.TestedLoops.{tested_turn, tested_loop, stepped_turn, stepped_loop, begins, started_loop}
use Rattle.tclv_engine.proofs.SameLemmas.{Agree, EvaluatorsAgree, with_itself, if_same, bind_same}
use Rattle.tclv_engine.proofs.ExpressionBoundLemmas.{parsed_same, test_agree}

-- ---- units, bodies, scripts between turns

pub unit_left : {W : Type 0} → (n : ℕ) → Agree {W = W} n take_unit take_unit
unit_left n st u = if_same (st.units == 0) (with_itself u) (with_itself (omega (arith, u)))

abbrev turned : {W : Type 0} → Res W Outcome → Res W Turn
turned m = record { ending = turn_ending m.ending; after = m.after; events = m.events }

abbrev between-turned : {W : Type 0} → Res W Outcome → Res W Bool
between-turned m = record { ending = between_ending m.ending; after = m.after; events = m.events }

pub body_agree : {W : Type 0} → (n : ℕ) (ev ev' : (Evaluator W)) → EvaluatorsAgree n ev ev' → (s : Script) → Agree n (body ev s) (body ev' s)
body_agree n ev ev' h s st u = let k = h.scripts s st u in record { same = ap turned k.same; left = k.left }

pub between_agree : {W : Type 0} → (n : ℕ) (ev ev' : (Evaluator W)) → EvaluatorsAgree n ev ev' → (s : Script) → Agree n (between_turns ev s) (between_turns ev' s)
between_agree n ev ev' h s st u = let k = h.scripts s st u in record { same = ap between-turned k.same; left = k.left }

pub paid_agree : {W : Type 0} → (n : ℕ) (ev ev' : (Evaluator W)) → EvaluatorsAgree n ev ev' → (s : Script) → Agree n (paid_body ev s) (paid_body ev' s)
paid_agree n ev ev' h s st u = bind_same (unit_left n st u) (λ a s1 v. bind_same (body_agree n ev ev' h s s1 v) (λ t s2 x. with_itself x))

turns-agree : {W : Type 0} → (n fuel : ℕ) (turn turn' : (State W) → Res W Bool) → Agree n turn turn' → Agree n (turns fuel turn) (turns fuel turn')
unfolding turns
turns-agree n zero turn turn' h st u = with_itself u
turns-agree n (suc fuel) turn turn' h st u = bind_same (h st u) (λ more s1 v. if_same more (turns-agree n fuel turn turn' h s1 v) (with_itself v))

pub loop_agree : {W : Type 0} → (n : ℕ) (turn turn' : (State W) → Res W Bool) → Agree n turn turn' → Agree n (loop turn) (loop turn')
loop_agree n turn turn' h st u = turns-agree n (st.units + 1) turn turn' h st u

-- ---- loops by a test

module _ {W : Type 0} (n : ℕ) (ev ev' : (Evaluator W)) (h : EvaluatorsAgree n ev ev') where
  tested_turn-agree : (tree : ExprTree) (s : Script) → Agree n (tested_turn ev tree s) (tested_turn ev' tree s)
  tested_turn-agree tree s st u = bind_same (test_agree n ev ev' h tree st u) (λ more s1 v. if_same more (paid_agree n ev ev' h s s1 v) (with_itself v))

  pub tested_loop_agree : (condition text : Text) → Agree n (tested_loop ev condition text) (tested_loop ev' condition text)
  tested_loop_agree condition text st u =
      bind_same (parsed_same n condition st u) (λ tree s1 v.
      bind_same (loop_agree n _ _ (tested_turn-agree tree (commands text)) s1 v) (λ a s2 x. with_itself x))

  stepped_turn-agree : (tree : ExprTree) (next s : Script) → Agree n (stepped_turn ev tree next s) (stepped_turn ev' tree next s)
  stepped_turn-agree tree next s st u = bind_same (tested_turn-agree tree s st u) (λ more s1 v. if_same more (between_agree n ev ev' h next s1 v) (with_itself v))

  stepped_loop-agree : (condition next text : Text) → Agree n (stepped_loop ev condition next text) (stepped_loop ev' condition next text)
  stepped_loop-agree condition next text st u =
      bind_same (parsed_same n condition st u) (λ tree s1 v.
      bind_same (loop_agree n _ _ (stepped_turn-agree tree (commands next) (commands text)) s1 v) (λ a s2 x. with_itself x))

  begins-agree : (start : Text) → Agree n (begins ev start) (begins ev' start)
  begins-agree start st u = bind_same (h.scripts (commands start) st u) (λ o s1 v. with_itself v)

  pub started_loop_agree : (start condition next text : Text) → Agree n (started_loop ev start condition next text) (started_loop ev' start condition next text)
  started_loop_agree start condition next text st u = bind_same (begins-agree start st u) (λ a s1 v. stepped_loop-agree condition next text s1 v)
