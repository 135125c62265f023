-- Loops over lists where few units are left: evaluators that agree there give the same, and no unit comes back.
use Rattle.std.proofs.Common.{◌*◌, ◌+◌, ◌++◌, ℕ, zero, suc, List, [], ◌∷◌, drop, length}
use Rattle.tclv_parse.specs.declared.tree.Script.{Script}
use Rattle.tclv_parse.specs.Grammar.{commands}
use Rattle.tclv_model.specs.Rows.{Answer, Gives, Refuses}
use Rattle.tclv_engine.specs.State.{Text, State}
use Rattle.tclv_engine.specs.Results.{Res}
use Rattle.tclv_engine.specs.Words.{Evaluator}
use Rattle.tclv_engine.specs.DataAnswers.{of_answer}
use Rattle.tclv_engine.specs.ListAssignment.{next_of, assign_each}
use Rattle.tclv_engine.specs.Loops.{Turn, Gave, Skipped, Broke}
use Rattle.tclv_engine.specs.EachLoops.{Group, turn_count, assign_groups, each_turn, behind, each_turns, each_of}
use Rattle.tclv_engine.proofs.SameLemmas.{Agree, EvaluatorsAgree, with_itself, bind_same, assign_same}
use Rattle.tclv_engine.proofs.LoopBoundLemmas.{unit_left, body_agree}

-- ---- lists, and variables that get values

pub of_answer_same : {W A : Type 0} (n : ℕ) (answer : Answer A) → Agree {W = W} n (of_answer answer) (of_answer answer)
of_answer_same n (Gives a) st u = with_itself u
of_answer_same n (Refuses kind message code) st u = with_itself u

pub assign_each_same : {W : Type 0} → (n : ℕ) (names values : List Text) → Agree {W = W} n (assign_each names values) (assign_each names values)
unfolding assign_each
assign_each_same n [] values st u = with_itself u
assign_each_same n (name ∷ names) values st u = bind_same (assign_same n name (next_of values) st u) (λ kept. assign_each_same n names (drop 1 values))

groups-assigned : {W : Type 0} → (n k : ℕ) (gs : List Group) → Agree {W = W} n (assign_groups k gs) (assign_groups k gs)
unfolding assign_groups
groups-assigned n k [] st u = with_itself u
groups-assigned n k (g ∷ gs) st u = bind_same (assign_each_same n g.0 (drop (k * length g.0) g.1) st u) (λ a. groups-assigned n k gs)

-- ---- turns

behind-agree : {W : Type 0} → (n : ℕ) (t : Turn) (more more' : List Text → (State W) → Res W (List Text)) → ((results : List Text) → Agree n (more results) (more' results)) → (results : List Text) →
    Agree n (behind t more results) (behind t more' results)
behind-agree n (Gave text) more more' h results st u = h (results ++ text ∷ []) st u
behind-agree n Skipped more more' h results st u = h results st u
behind-agree n Broke more more' h results st u = with_itself u

turns-agree : {W : Type 0} → (n : ℕ) (turn turn' : ℕ → (State W) → Res W Turn) → ((k : ℕ) → Agree n (turn k) (turn' k)) → (count k : ℕ) (results : List Text) → Agree n (each_turns turn count k results) (each_turns turn' count k results)
unfolding each_turns
turns-agree n turn turn' h zero k results st u = with_itself u
turns-agree n turn turn' h (suc m) k results st u =
    bind_same (h k st u) (λ t. behind-agree n t (each_turns turn m (k + 1)) (each_turns turn' m (k + 1)) (turns-agree n turn turn' h m (k + 1)) results)

module _ {W : Type 0} (n : ℕ) (ev ev' : (Evaluator W)) (h : EvaluatorsAgree n ev ev') where
  turn-agree : (s : Script) (gs : List Group) (k : ℕ) → Agree n (each_turn ev s gs k) (each_turn ev' s gs k)
  turn-agree s gs k st u = bind_same (unit_left n st u) (λ a s1 v. bind_same (groups-assigned n k gs s1 v) (λ b s2 x. body_agree n ev ev' h s s2 x))

  pub each_of_agree : (result : List Text → Text) (script : Text) (gs : List Group) → Agree n (each_of result ev script gs) (each_of result ev' script gs)
  each_of_agree result script gs st u = bind_same (turns-agree n _ _ (turn-agree (commands script) gs) (turn_count gs) 0 [] st u) (λ results s1 v. with_itself v)
