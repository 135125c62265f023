-- No bound on the units shows in the meaning of a script. No command has a lemma here: the evaluation knows only what is wanted.
use Rattle.std.proofs.Common.{◌≡◌, ◌≤◌, ◌<◌, ◌+◌, ◌++◌, ℕ, zero, suc, nat_lt, Bool, true, false, List, [], ◌∷◌, Option, Some, None, arith, ap}
use Rattle.tclv_parse.specs.Grammar.{commands}
use Rattle.tclv_parse.specs.declared.faults.ParseFault.{ParseFault}
use Rattle.tclv_parse.specs.declared.tree.Word.{Word, out-Word}
use Rattle.tclv_parse.specs.declared.tree.Command.{Command, out-Command}
use Rattle.tclv_parse.specs.declared.tree.Script.{Script, out-Script}
use Rattle.tclv_engine.specs.State.{Text, State}
use Rattle.tclv_engine.specs.Results.{Res, Outcome, plain}
use Rattle.tclv_engine.specs.Words.{Evaluator, expanded, word, words}
use Rattle.tclv_engine.specs.EachLoops.{result_of}
use Rattle.tclv_value.specs.Procedures.{Procedure}
use Rattle.tclv_engine.specs.Frames.{entered, back_from, framed, level_current}
use Rattle.tclv_engine.specs.Plans.{Lead, Script as ScriptLead, Refused, Nothing, Alternative, Inner, Here, Body, There, Wanted, Finished, Run, Called, AtLevel, Value, Choice, Tested, Started, Each}
use Rattle.tclv_engine.specs.Evaluation.{Given, steady, concluding, text, value_result, lead, choose, body_inside, inner, perform_by, around, call, command, end_of, sequence, back_to, nested, evaluate, paid_call, evaluating, none_left, evaluator, whole_script, whole_words, whole}
use Rattle.tclv_engine.specs.Bounds.{IsWhole, BoundsAgree, IsWholeOfWords, BoundsAgreeOnWords}
use Rattle.tclv_engine.proofs.SameLemmas.{Same, Agree, EvaluatorsAgree, with_itself, if_same, bind_same, unit_same}
use Rattle.tclv_engine.proofs.WordBoundLemmas.{substitution_agree}
use Rattle.tclv_engine.proofs.ExpressionBoundLemmas.{parsed_same, result_agree, condition_agree}
use Rattle.tclv_engine.proofs.LoopBoundLemmas.{tested_loop_agree, started_loop_agree}
use Rattle.tclv_engine.proofs.EachBoundLemmas.{of_answer_same, each_of_agree}
use Rattle.tclv_model.specs.Values.{list_of}

-- ---- words

expanded-same : {W : Type 0} → (n : ℕ) (mark : Bool) (text : Text) → Agree {W = W} n (expanded mark text) (expanded mark text)
expanded-same n false text st u = with_itself u
expanded-same n true text st u = of_answer_same n (list_of text) st u

word-agree : {W : Type 0} → (n : ℕ) (ev ev' : Evaluator W) → EvaluatorsAgree n ev ev' → (w : Word) → Agree n (word ev w) (word ev' w)
word-agree n ev ev' h w st u = bind_same (substitution_agree n ev ev' h (out-Word w).parts st u) (expanded-same n (out-Word w).expand)

words-agree : {W : Type 0} → (n : ℕ) (ev ev' : Evaluator W) → EvaluatorsAgree n ev ev' → (before : List Text) (ws : List Word) → Agree n (words ev before ws) (words ev' before ws)
unfolding words
words-agree n ev ev' h before [] st u = with_itself u
words-agree n ev ev' h before (w ∷ ws) st u = bind_same (word-agree n ev ev' h w st u) (λ texts. words-agree n ev ev' h (before ++ texts) ws)

-- ---- what is wanted

steady_same : {W A : Type 0} → (n : ℕ) (step : State W → Res W A) → Agree n (steady step) (steady step)
steady_same n step st u = with_itself u

concluding-same : {W : Type 0} → (n : ℕ) (m m' : Res W Outcome) → Same n m m' → Same n (concluding m) (concluding m')
concluding-same n m m' h = record { same = ap concluding h.same; left = h.left }

-- ---- frames

back-from-same : {W : Type 0} → (n count frame : ℕ) (m m' : Res W Outcome) → Same n m m' → Same n (back_from count frame m) (back_from count frame m')
back-from-same n count frame m m' h = record { same = ap (back_from count frame) h.same; left = h.left }

framed-agree : {W : Type 0} → (n : ℕ) (body body' : State W → Res W Outcome) → Agree n body body' → Agree n (framed body) (framed body')
framed-agree n body body' h st u = back-from-same n _ _ (body st) (body' st) (h st u)

module _ {W : Type 0} (n : ℕ) (ev ev' : Evaluator W) (h : EvaluatorsAgree n ev ev') where
  text-agree : (t : Text) → Agree n (text ev t) (text ev' t)
  text-agree t st u = h.scripts (commands t) st u

  value-agree : (t : Text) → Agree n (value_result ev t) (value_result ev' t)
  value-agree t st u = bind_same (bind_same (parsed_same n t st u) (result_agree n ev ev' h)) (λ x s1 v. with_itself v)

  lead-agree : (l : Lead) → Agree n (lead ev l) (lead ev' l)
  lead-agree (ScriptLead t) st u = text-agree t st u
  lead-agree (Refused kind first) st u = with_itself u
  lead-agree Nothing st u = with_itself u

  choose-agree : (list : List Alternative) (last : Lead) → Agree n (choose ev list last) (choose ev' list last)
  unfolding choose
  choose-agree [] last st u = lead-agree last st u
  choose-agree (a ∷ rest) last st u =
      bind_same (condition_agree n ev ev' h a.test st u) (λ b s1 v. if_same b (lead-agree a.lead s1 v) (choose-agree rest last s1 v))

  inside-agree : (d : Procedure) (texts : List Text) → Agree n (body_inside ev d texts) (body_inside ev' d texts)
  inside-agree d texts st u = bind_same (steady_same n (entered d texts) st u) (λ x. text-agree d.body)

  inner-agree : (i : Inner) → Agree n (inner ev i) (inner ev' i)
  inner-agree (Here t) st u = text-agree t st u
  inner-agree (Body d texts) st u = framed-agree n (body_inside ev d texts) (body_inside ev' d texts) (inside-agree d texts) st u
  inner-agree (There level t) st u =
      framed-agree n (λ s. text ev t (level_current level s)) (λ s. text ev' t (level_current level s)) (λ s v. text-agree t (level_current level s) v) st u

  perform-agree : {K : Type 0} → (run run' : Inner → K → State W → Res W Outcome) → ((i : Inner) (behind : K) → Agree n (run i behind) (run' i behind)) → (p : Wanted K) →
      Agree n (perform_by ev run p) (perform_by ev' run' p)
  perform-agree run run' k (Finished o) st u = with_itself u
  perform-agree run run' k (Run t behind) st u = k (Here t) behind st u
  perform-agree run run' k (Called d texts behind) st u = k (Body d texts) behind st u
  perform-agree run run' k (AtLevel level t behind) st u = k (There level t) behind st u
  perform-agree run run' k (Value t) st u = value-agree t st u
  perform-agree run run' k (Choice list last) st u = choose-agree list last st u
  perform-agree run run' k (Tested test body) st u = tested_loop_agree n ev ev' h test body st u
  perform-agree run run' k (Started start test next body) st u = started_loop_agree n ev ev' h start test next body st u
  perform-agree run run' k (Each groups body keep) st u = each_of_agree n ev ev' h (result_of keep) body groups st u

  around-agree : {K : Type 0} → (given : Given W K) (left : ℕ) (i : Inner) (behind : K) → Agree n (around left given ev i behind) (around left given ev' i behind)
  around-agree given zero i behind st u = with_itself u
  around-agree given (suc left) i behind st u =
      bind_same (concluding-same n _ _ (inner-agree i st u))
      (λ e s1 v. bind_same (steady_same n (given.finish behind e) s1 v) (perform-agree (around left given ev) (around left given ev') (around-agree given left)))

  -- ---- commands

  call-agree : {K : Type 0} → (given : Given W K) (ws : List Text) → Agree n (call given ev ws) (call given ev' ws)
  unfolding call
  call-agree given [] st u = with_itself u
  call-agree given (name ∷ args) st u =
      bind_same (steady_same n (given.plan (name ∷ args)) st u) (perform-agree (around 3 given ev) (around 3 given ev') (around-agree given 3))

-- A command takes a unit first: evaluators that agree below are enough.
command-agree : {W K : Type 0} → (given : Given W K) (n : ℕ) (ev ev' : Evaluator W) → ((k : ℕ) → k < n → EvaluatorsAgree k ev ev') → (c : Command) → Agree n (command given ev c) (command given ev' c)
unfolding command
command-agree given n ev ev' h c st u =
    unit_same n _ _ st u (λ k l a s1 v. bind_same (words-agree k ev ev' (h k l) [] (out-Command c).words s1 v) (call-agree k ev ev' (h k l) given))

-- ---- scripts

end-same : {W : Type 0} → (n : ℕ) (fault : Option ParseFault) (last : Outcome) → Agree {W = W} n (end_of fault last) (end_of fault last)
end-same n None last st u = with_itself u
end-same n (Some fault) last st u = with_itself u

sequence-agree : {W K : Type 0} → (given : Given W K) (n : ℕ) (ev ev' : Evaluator W) → ((k : ℕ) → k < n → EvaluatorsAgree k ev ev') → (last : Outcome) (cs : List Command) (fault : Option ParseFault) →
    Agree n (sequence given ev last cs fault) (sequence given ev' last cs fault)
unfolding sequence
sequence-agree given n ev ev' h last [] fault st u = end-same n fault last st u
sequence-agree given n ev ev' h last (c ∷ cs) fault st u = bind_same (command-agree given n ev ev' h c st u) (λ o. sequence-agree given n ev ev' h o cs fault)

back-same : {W : Type 0} → (n depth : ℕ) (m m' : Res W Outcome) → Same n m m' → Same n (back_to depth m) (back_to depth m')
back-same n depth m m' h = record { same = ap (back_to depth) h.same; left = h.left }

nested-agree : {W : Type 0} → (n : ℕ) (body body' : State W → Res W Outcome) → Agree n body body' → Agree n (nested body) (nested body')
unfolding nested
nested-agree n body body' h st u = if_same (nat_lt st.depth 200) (back-same n st.depth _ _ (h (record st { depth = st.depth + 1 }) u)) (with_itself u)

evaluate-agree : {W K : Type 0} → (given : Given W K) (n : ℕ) (ev ev' : Evaluator W) → ((k : ℕ) → k < n → EvaluatorsAgree k ev ev') → (s : Script) → Agree n (evaluate given ev s) (evaluate given ev' s)
evaluate-agree given n ev ev' h s = nested-agree n _ _ (sequence-agree given n ev ev' h (plain []) (out-Script s).commands (out-Script s).fault)

-- ---- bounds

paid-agree : {W K : Type 0} → (given : Given W K) (n : ℕ) (ev ev' : Evaluator W) → ((k : ℕ) → k < n → EvaluatorsAgree k ev ev') → (ws : List Text) → Agree n (paid_call given ev ws) (paid_call given ev' ws)
paid-agree given n ev ev' h ws st u = unit_same n _ _ st u (λ k l a s1 v. call-agree k ev ev' (h k l) given ws s1 v)

-- evaluators over others that agree below
evaluating-agree : {W K : Type 0} → (given : Given W K) (n : ℕ) (ev ev' : Evaluator W) → ((k : ℕ) → k < n → EvaluatorsAgree k ev ev') → EvaluatorsAgree n (evaluating given ev) (evaluating given ev')
evaluating-agree given n ev ev' h = record { scripts = evaluate-agree given n ev ev' h; words = λ ws. nested-agree n _ _ (paid-agree given n ev ev' h ws) }

-- where no unit is left, all evaluators agree below
none-below : {W : Type 0} → (n : ℕ) (ev ev' : Evaluator W) → n ≤ 0 → (k : ℕ) → k < n → EvaluatorsAgree k ev ev'
none-below n ev ev' z k l = absurd (omega (arith, z, l))

evaluators-agree : {W K : Type 0} → (given : Given W K) (n bound more : ℕ) → n ≤ bound → n ≤ more → EvaluatorsAgree n (evaluator given bound) (evaluator given more)
unfolding evaluator
evaluators-agree given n zero zero h i = evaluating-agree given n none_left none_left (none-below n none_left none_left h)
evaluators-agree given n zero (suc more) h i = evaluating-agree given n none_left (evaluator given more) (none-below n none_left (evaluator given more) h)
evaluators-agree given n (suc bound) zero h i = evaluating-agree given n (evaluator given bound) none_left (none-below n (evaluator given bound) none_left i)
evaluators-agree given n (suc bound) (suc more) h i =
    evaluating-agree given n (evaluator given bound) (evaluator given more) (λ k l. evaluators-agree given k bound more (omega (arith, h, l)) (omega (arith, i, l)))

pub bounds_agree : {W K : Type 0} → (given : Given W K) (s : Script) (st : State W) → BoundsAgree given s st
unfolding whole_script
bounds_agree given s st bound h = ((evaluators-agree given st.units bound st.units h (omega arith)).scripts s st (omega arith)).same

pub bounds_agree_on_words : {W K : Type 0} → (given : Given W K) (ws : List Text) (st : State W) → BoundsAgreeOnWords given ws st
unfolding whole_words
bounds_agree_on_words given ws st bound h = ((evaluators-agree given st.units bound st.units h (omega arith)).words ws st (omega arith)).same

scripts-whole : {W K : Type 0} → (given : Given W K) (bound k : ℕ) → k ≤ bound → (s : Script) → Agree k ((evaluator given bound).script s) ((whole given).script s)
unfolding whole_script
scripts-whole given bound k h s st u =
    let agreed = (evaluators-agree given st.units bound st.units (omega (arith, h, u)) (omega arith)).scripts s st (omega arith) in
    record { same = agreed.same; left = omega (arith, agreed.left, u) }

words-whole : {W K : Type 0} → (given : Given W K) (bound k : ℕ) → k ≤ bound → (ws : List Text) → Agree k ((evaluator given bound).words ws) ((whole given).words ws)
unfolding whole_words
words-whole given bound k h ws st u =
    let agreed = (evaluators-agree given st.units bound st.units (omega (arith, h, u)) (omega arith)).words ws st (omega arith) in
    record { same = agreed.same; left = omega (arith, agreed.left, u) }

whole-agrees : {W K : Type 0} → (given : Given W K) (bound k : ℕ) → k ≤ bound → EvaluatorsAgree k (evaluator given bound) (whole given)
whole-agrees given bound k h = record { scripts = scripts-whole given bound k h; words = words-whole given bound k h }

-- at a bound that is at least the units left, the evaluator is the one over the whole meaning
at_units : {W K : Type 0} → (given : Given W K) (units : ℕ) → EvaluatorsAgree units (evaluator given units) (evaluating given (whole given))
unfolding evaluator
at_units given zero = evaluating-agree given 0 none_left (whole given) (none-below 0 none_left (whole given) (omega arith))
at_units given (suc bound) = evaluating-agree given (suc bound) (evaluator given bound) (whole given) (λ k l. whole-agrees given bound k (omega (arith, l)))

pub is_whole : {W K : Type 0} → (given : Given W K) (s : Script) (st : State W) → IsWhole given s st
unfolding whole_script
is_whole given s st = ((at_units given st.units).scripts s st (omega arith)).same

pub is_whole_of_words : {W K : Type 0} → (given : Given W K) (ws : List Text) (st : State W) → IsWholeOfWords given ws st
unfolding whole_words
is_whole_of_words given ws st = ((at_units given st.units).words ws st (omega arith)).same
