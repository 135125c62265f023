-- One step of each walk of the meaning.
use Rattle.std.proofs.Common.{◌≡◌, ◌≤◌, ◌<◌, ◌+◌, ◌-◌, ◌++◌, ℕ, zero, suc, List, [], ◌∷◌, length, drop, get_or, arith, sym, ap, ◌∙◌, Option}
use Rattle.std.proofs.lemmas.List.{at_drop_all}
use Rattle.tclv_parse.specs.declared.faults.ParseFault.{ParseFault}
use Rattle.tclv_parse.specs.declared.tree.Part.{Part}
use Rattle.tclv_parse.specs.declared.tree.Word.{Word}
use Rattle.tclv_parse.specs.declared.tree.Command.{Command}
use Rattle.tclv_model.specs.declared.messages.MessageId.TheVariants as message
use Rattle.tclv_engine.specs.declared.endings.Carried.{Carried}
use Rattle.tclv_model.specs.declared.error_codes.ErrorCode.TheVariants.{NoCode}
use Rattle.tclv_engine.specs.State.{Text, State}
use Rattle.tclv_engine.specs.Results.{Res, Outcome, done, bind, outcome, raise}
use Rattle.tclv_engine.specs.Variables.{element_value}
use Rattle.tclv_engine.specs.Words.{Evaluator, word, words, joined, part_value, element}
use Rattle.tclv_engine.specs.Evaluation.{Given, sequence, command, end_of}
use Rattle.tclv_engine.specs.Answers.{as_outcome, last_of}
use Rattle.tclv_engine.proofs.Walks.{drops_one}

pub sequence-step : {W K : Type 0} → (given : Given W K) (ev : (Evaluator W)) (last : Outcome) (cs : List Command) (fault : Option ParseFault) (i : ℕ) (c : Command) (st : (State W)) → i < length cs → get_or cs i c ≡ c →
    bind (command given ev c st) (λ o s1. sequence given ev o (drop (i + 1) cs) fault s1) ≡ sequence given ev last (drop i cs) fault st
unfolding sequence
sequence-step given ev last cs fault i c st h e = ap (λ xs. sequence given ev last xs fault st) (drops_one cs i c h e)

pub sequence-end : {W K : Type 0} → (given : Given W K) (ev : (Evaluator W)) (last : Outcome) (cs : List Command) (fault : Option ParseFault) (i : ℕ) (st : (State W)) → length cs ≤ i →
    end_of fault last st ≡ sequence given ev last (drop i cs) fault st
unfolding sequence
sequence-end given ev last cs fault i st h = sym (at_drop_all (λ xs. sequence given ev last xs fault st) cs i h)

pub words-step : {W : Type 0} → (ev : (Evaluator W)) (before : List Text) (ws : List Word) (i : ℕ) (w : Word) (st : (State W)) → i < length ws → get_or ws i w ≡ w →
    bind (word ev w st) (λ texts s1. words ev (before ++ texts) (drop (i + 1) ws) s1) ≡ words ev before (drop i ws) st
unfolding words
words-step ev before ws i w st h e = ap (λ xs. words ev before xs st) (drops_one ws i w h e)

pub words-end : {W : Type 0} → (ev : (Evaluator W)) (before : List Text) (ws : List Word) (i : ℕ) (st : (State W)) → length ws ≤ i → done before st ≡ words ev before (drop i ws) st
unfolding words
words-end ev before ws i st h = sym (at_drop_all (λ xs. words ev before xs st) ws i h)

pub joined-step : {W : Type 0} → (value : Part → (State W) → Res W Text) (before : Text) (ps : List Part) (i : ℕ) (p : Part) (st : (State W)) → i < length ps → get_or ps i p ≡ p →
    bind (value p st) (λ text s1. joined value (before ++ text) (drop (i + 1) ps) s1) ≡ joined value before (drop i ps) st
unfolding joined
joined-step value before ps i p st h e = ap (λ xs. joined value before xs st) (drops_one ps i p h e)

pub joined-end : {W : Type 0} → (value : Part → (State W) → Res W Text) (before : Text) (ps : List Part) (i : ℕ) (st : (State W)) → length ps ≤ i → done before st ≡ joined value before (drop i ps) st
unfolding joined
joined-end value before ps i st h = sym (at_drop_all (λ xs. joined value before xs st) ps i h)

-- a part alone
pub joined-one : {W : Type 0} → (value : Part → (State W) → Res W Text) (ps : List Part) (p : Part) (st : (State W)) → ps ≡ p ∷ [] → bind (value p st) (λ text s1. done text s1) ≡ joined value [] ps st
unfolding joined
joined-one value ps p st e = sym (ap (λ xs. joined value [] xs st) e)

-- an element that has a level left
pub element-step : {W : Type 0} → (levels : ℕ) (ev : (Evaluator W)) (name : Text) (ps : List Part) (st : (State W)) → 0 < levels →
    bind (joined (part_value (levels - 1) ev) [] ps st) (λ text s1. element_value name text s1) ≡ element levels ev name ps st
unfolding element
element-step zero ev name ps st h = absurd (omega (arith, h))
element-step (suc k) ev name ps st h =
    let one : suc k - 1 ≡ k = omega arith in
    ap (λ j. bind (joined (part_value j ev) [] ps st) (λ text s1. element_value name text s1)) one

pub element-end : {W : Type 0} → (levels : ℕ) (ev : (Evaluator W)) (name : Text) (ps : List Part) (st : (State W)) → levels ≡ 0 → raise message.TooManyNestedBrackets [] [] NoCode st ≡ element levels ev name ps st
unfolding element
element-end levels ev name ps st h = sym (ap (λ j. element j ev name ps st) h)

-- an outcome that shows is known by the top text and the options
pub outcome-is : (o : Outcome) (kept : Carried) (stack : List Text) → as_outcome o kept stack → outcome kept (last_of stack) ≡ o
outcome-is o kept stack h = ap (λ t. outcome kept t) h.0 ∙ ap (λ os. record o { options = os }) (sym h.1)

-- an item alone
pub one-item : {X : Type 0} (xs : List X) (x : X) → 1 ≤ length xs → length xs < 2 → get_or xs 0 x ≡ x → xs ≡ x ∷ []
one-item [] x h k e = absurd (omega (arith, h))
one-item (y ∷ []) x h k e = ap (λ z. z ∷ []) e
one-item (y ∷ z ∷ zs) x h k e = absurd (omega (arith, k))
