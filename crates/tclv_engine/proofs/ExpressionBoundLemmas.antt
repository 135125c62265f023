-- Expressions where few units are left: evaluators that agree there give the same, and no unit comes back.
use Rattle.std.proofs.Common.{◌++◌, ℕ, zero, suc, not, Bool, true, false, List, [], ◌∷◌, Option, Some, None, Result, Ok, Err, ◌&&◌}
use Rattle.std.specs.Prelude.{ℤ}
use Rattle.std.specs.declared.cmp.Ordering.{Ordering}
use Rattle.std.specs.Ordering.{is_eq}
use Rattle.tclv_model.specs.Rows as rows
use Rattle.tclv_model.specs.Values.{list_of}
use Rattle.tclv_exprp.specs.declared.operators.WordOp.{WordOp}
use Rattle.tclv_exprp.specs.declared.operators.WordOp.TheVariants as w
use Rattle.tclv_engine.specs.DataAnswers.{of_answer}
use Rattle.tclv_text.specs.declared.numbers.WholeFault.{WholeFault}
use Rattle.tclv_text.specs.declared.numbers.WholeFault.TheVariants.{NotWhole, TooLarge, FloatForm}
use Rattle.tclv_text.specs.Numbers.{whole}
use Rattle.tclv_text.specs.Truths.{truth}
use Rattle.tclv_exprp.specs.declared.faults.ExprFault.{ExprFault}
use Rattle.tclv_exprp.specs.declared.faults.ExprFault.TheVariants as f
use Rattle.tclv_exprp.specs.declared.operators.Op1.{Op1}
use Rattle.tclv_exprp.specs.declared.operators.Op1.TheVariants as u
use Rattle.tclv_exprp.specs.declared.operators.Op2.{Op2}
use Rattle.tclv_exprp.specs.declared.operators.Infix.{Infix}
use Rattle.tclv_exprp.specs.declared.operators.Infix.TheVariants as i
use Rattle.tclv_exprp.specs.declared.tree.Step.{Step, out-Step}
use Rattle.tclv_exprp.specs.declared.tree.ExprTree.{ExprTree, out-ExprTree}
use Rattle.tclv_exprp.specs.declared.tree.ExprTree.TheOpen as layer
use Rattle.tclv_exprp.specs.Operators.{Answer, apply1, apply2}
use Rattle.tclv_exprp.specs.ExpressionGrammar.{expression}
use Rattle.tclv_model.specs.declared.messages.MessageId.{MessageId}
use Rattle.tclv_model.specs.declared.messages.MessageId.TheVariants as message
use Rattle.tclv_model.specs.declared.error_codes.ErrorCode.TheVariants as code
use Rattle.tclv_model.specs.declared.error_codes.ErrorCode.{ErrorCode}
use Rattle.tclv_engine.specs.declared.operations.Comparands.{Comparands}
use Rattle.tclv_engine.specs.declared.operations.Comparands.TheVariants as c
use Rattle.tclv_engine.specs.declared.functions.Function.{Function}
use Rattle.tclv_engine.specs.declared.functions.Function.TheVariants as function
use Rattle.tclv_engine.specs.declared.functions.Pick.{Pick}
use Rattle.tclv_engine.specs.declared.functions.Pick.TheVariants as p
use Rattle.tclv_engine.specs.State.{Text}
use Rattle.tclv_engine.specs.Names.{bytes_of}
use Rattle.tclv_engine.specs.Words.{Evaluator}
use Rattle.tclv_engine.specs.Operations.{number, truth_number, operand_by, operand, truth_by, truth_of, calculated, unary_sign, signed, unary, sign, arithmetic, compares, comparison, compared, if_same, sorts_of, order, is_nan, between, is_among, as_asked, membership, words_between}
use Rattle.tclv_engine.specs.Functions.{picked_of, picked, extreme, size, apply, call_by, function_of, call}
use Rattle.tclv_engine.specs.Expressions.{Valuer, both, either, right_truth, step, steps, choice, values, node, value, settled_by, max_tree, result, test, parsed_by, parsed, condition}
use Rattle.tclv_engine.proofs.SameLemmas.{Agree, EvaluatorsAgree, with_itself, bind_same}
use Rattle.tclv_engine.proofs.SameLemmas as same
use Rattle.tclv_engine.proofs.WordBoundLemmas.{substitution_agree}

-- ---- operators

number-same : {W : Type 0} → (n : ℕ) (m : ℤ) → Agree {W = W} n (number m) (number m)
number-same n m st u = with_itself u

truth_number-same : {W : Type 0} → (n : ℕ) (b : Bool) → Agree {W = W} n (truth_number b) (truth_number b)
truth_number-same n b st u = with_itself u

operand-by : {W : Type 0} → (n : ℕ) (sign text : Text) (r : Result ℤ WholeFault) → Agree {W = W} n (operand_by sign text r) (operand_by sign text r)
operand-by n sign text (Ok m) st u = with_itself u
operand-by n sign text (Err why) st u = with_itself u

operand-same : {W : Type 0} → (n : ℕ) (sign text : Text) → Agree {W = W} n (operand sign text) (operand sign text)
operand-same n sign text = operand-by n sign text (whole text)

truth-by : {W : Type 0} → (n : ℕ) (text : Text) (r : Option Bool) → Agree {W = W} n (truth_by text r) (truth_by text r)
truth-by n text (Some b) st u = with_itself u
truth-by n text None st u = with_itself u

truth_of-same : {W : Type 0} → (n : ℕ) (text : Text) → Agree {W = W} n (truth_of text) (truth_of text)
truth_of-same n text = truth-by n text (truth text)

calculated-same : {W : Type 0} → (n : ℕ) (r : Answer) → Agree {W = W} n (calculated r) (calculated r)
calculated-same n (Ok m) st u = with_itself u
calculated-same n (Err why) st u = with_itself u

signed-same : {W : Type 0} → (n : ℕ) (op : Op1) (x : Text) → Agree {W = W} n (signed op x) (signed op x)
signed-same n op x st u = bind_same (operand-same n (unary_sign op) x st u) (λ m. calculated-same n (apply1 op m))

unary-same : {W : Type 0} → (n : ℕ) (op : Op1) (x : Text) → Agree {W = W} n (unary op x) (unary op x)
unary-same n u.Minus x st v = signed-same n u.Minus x st v
unary-same n u.Plus x st v = signed-same n u.Plus x st v
unary-same n u.Invert x st v = signed-same n u.Invert x st v
unary-same n u.Not x st v = bind_same (truth_of-same n x st v) (λ b. truth_number-same n (not b))

arithmetic-same : {W : Type 0} → (n : ℕ) (op : Op2) (x y : Text) → Agree {W = W} n (arithmetic op x y) (arithmetic op x y)
arithmetic-same n op x y st u = bind_same (operand-same n (sign op) x st u) (λ m s1 v. bind_same (operand-same n (sign op) y s1 v) (λ k. calculated-same n (apply2 op m k)))

if_same-same : {W : Type 0} → (n : ℕ) (b : Bool) (op : Op2) (by : Ordering) (kind : MessageId) (errorcode : ErrorCode) → Agree {W = W} n (if_same b op by kind errorcode) (if_same b op by kind errorcode)
if_same-same n true op by kind errorcode st u = with_itself u
if_same-same n false op by kind errorcode st u = with_itself u

compared-same : {W : Type 0} → (n : ℕ) (op : Op2) (x y : Text) (sorts : Comparands) → Agree {W = W} n (compared op x y sorts) (compared op x y sorts)
compared-same n op x y (c.Numbers m k) st u = calculated-same n (apply2 op m k) st u
compared-same n op x y c.Texts st u = with_itself u
compared-same n op x y c.Floats st u = if_same-same n (is_eq (order x y) && not (is_nan x)) op (order x y) message.FloatComparison code.NoCode st u
compared-same n op x y c.LargeNumbers st u = if_same-same n (is_eq (order x y)) op (order x y) message.IntegerTooLarge code.Overflow st u

comparison-same : {W : Type 0} → (n : ℕ) (op : Op2) (x y : Text) → Agree {W = W} n (comparison op x y) (comparison op x y)
comparison-same n op x y = compared-same n op x y (sorts_of (whole x) (whole y))

between-same : {W : Type 0} → (n : ℕ) (op : Op2) (x y : Text) → Agree {W = W} n (between op x y) (between op x y)
between-same n op x y st u = same.if_same (compares op) (comparison-same n op x y st u) (arithmetic-same n op x y st u)

of_answer-same : {W A : Type 0} (n : ℕ) (answer : rows.Answer A) → Agree {W = W} n (of_answer answer) (of_answer answer)
of_answer-same n (rows.Gives a) st u = with_itself u
of_answer-same n (rows.Refuses kind message errorcode) st u = with_itself u

membership-same : {W : Type 0} → (n : ℕ) (wanted : Bool) (x y : Text) → Agree {W = W} n (membership wanted x y) (membership wanted x y)
membership-same n wanted x y st u = bind_same (of_answer-same n (list_of y) st u) (λ ts. truth_number-same n (as_asked wanted (is_among x ts)))

words-same : {W : Type 0} → (n : ℕ) (op : WordOp) (x y : Text) → Agree {W = W} n (words_between op x y) (words_between op x y)
words-same n w.Among x y st u = membership-same n true x y st u
words-same n w.NotAmong x y st u = membership-same n false x y st u
words-same n w.Eq x y st u = with_itself u
words-same n w.Ne x y st u = with_itself u
words-same n w.Lt x y st u = with_itself u
words-same n w.Gt x y st u = with_itself u
words-same n w.Le x y st u = with_itself u
words-same n w.Ge x y st u = with_itself u

-- ---- functions

picked-same : {W : Type 0} → (n : ℕ) (pick : Pick) (name : Text) (m : ℤ) (xs : List Text) → Agree {W = W} n (picked pick name m xs) (picked pick name m xs)
unfolding picked
picked-same n pick name m [] st u = with_itself u
picked-same n pick name m (x ∷ xs) st u = bind_same (operand-same n name x st u) (λ k. picked-same n pick name (picked_of pick m k) xs)

extreme-same : {W : Type 0} → (n : ℕ) (pick : Pick) (name : Text) (xs : List Text) → Agree {W = W} n (extreme pick name xs) (extreme pick name xs)
extreme-same n pick name [] st u = with_itself u
extreme-same n pick name (x ∷ xs) st u = bind_same (operand-same n name x st u) (λ m. picked-same n pick name m xs)

apply-same : {W : Type 0} → (n : ℕ) (g : Function) (name : Text) (xs : List Text) → Agree {W = W} n (apply g name xs) (apply g name xs)
apply-same n function.Absolute name [] st u = with_itself u
apply-same n function.Absolute name (x ∷ []) st u = bind_same (operand-same n name x st u) (λ m. calculated-same n (size m))
apply-same n function.Absolute name (x ∷ y ∷ xs) st u = with_itself u
apply-same n function.Whole name [] st u = with_itself u
apply-same n function.Whole name (x ∷ []) st u = bind_same (operand-same n name x st u) (number-same n)
apply-same n function.Whole name (x ∷ y ∷ xs) st u = with_itself u
apply-same n function.Truth name [] st u = with_itself u
apply-same n function.Truth name (x ∷ []) st u = bind_same (truth_of-same n x st u) (truth_number-same n)
apply-same n function.Truth name (x ∷ y ∷ xs) st u = with_itself u
apply-same n function.Greatest name xs st u = extreme-same n p.Greater name xs st u
apply-same n function.Least name xs st u = extreme-same n p.Less name xs st u

call-by : {W : Type 0} → (n : ℕ) (r : Option Function) (name : Text) (xs : List Text) → Agree {W = W} n (call_by r name xs) (call_by r name xs)
call-by n (Some g) name xs st u = apply-same n g name xs st u
call-by n None name xs st u = with_itself u

call-same : {W : Type 0} → (n : ℕ) (name : Text) (xs : List Text) → Agree {W = W} n (call name xs) (call name xs)
call-same n name xs = call-by n (function_of (bytes_of name)) name xs

-- ---- trees

module _ {W : Type 0} (n : ℕ) (v v' : (Valuer W)) (h : (e : ExprTree) → Agree n (v e) (v' e)) where
  right-agree : (right : ExprTree) → Agree n (right_truth v right) (right_truth v' right)
  right-agree right st u = bind_same (h right st u) (λ y s1 w. bind_same (truth_of-same n y s1 w) (truth_number-same n))

  both-agree : (right : ExprTree) (b : Bool) → Agree n (both v right b) (both v' right b)
  both-agree right true st u = right-agree right st u
  both-agree right false st u = with_itself u

  either-agree : (right : ExprTree) (b : Bool) → Agree n (either v right b) (either v' right b)
  either-agree right true st u = with_itself u
  either-agree right false st u = right-agree right st u

  step-agree : (op : Infix) (x : Text) (right : ExprTree) → Agree n (step v op x right) (step v' op x right)
  step-agree (i.Number op) x right st u = bind_same (h right st u) (λ y. between-same n op x y)
  step-agree (i.Words op) x right st u = bind_same (h right st u) (λ y. words-same n op x y)
  step-agree i.And x right st u = bind_same (truth_of-same n x st u) (both-agree right)
  step-agree i.Or x right st u = bind_same (truth_of-same n x st u) (either-agree right)

  steps-agree : (x : Text) (ss : List Step) → Agree n (steps v x ss) (steps v' x ss)
  unfolding steps
  steps-agree x [] st u = with_itself u
  steps-agree x (s ∷ ss) st u = bind_same (step-agree (out-Step s).op x (out-Step s).right st u) (λ y. steps-agree y ss)

  choice-agree : (a b : ExprTree) (t : Bool) → Agree n (choice v a b t) (choice v' a b t)
  choice-agree a b true st u = h a st u
  choice-agree a b false st u = h b st u

  values-agree : (before : List Text) (es : List ExprTree) → Agree n (values v before es) (values v' before es)
  unfolding values
  values-agree before [] st u = with_itself u
  values-agree before (e ∷ es) st u = bind_same (h e st u) (λ x. values-agree (before ++ (x ∷ [])) es)

  node-agree : (ev ev' : (Evaluator W)) → EvaluatorsAgree n ev ev' → (x : layer.ExprTree-F ExprTree Step) → Agree n (node ev v x) (node ev' v' x)
  node-agree ev ev' k (layer.Literal text) st u = with_itself u
  node-agree ev ev' k (layer.Parts parts) st u = substitution_agree n ev ev' k parts st u
  node-agree ev ev' k (layer.Unary op x) st u = bind_same (h x st u) (unary-same n op)
  node-agree ev ev' k (layer.Chain x ss) st u = bind_same (h x st u) (λ y. steps-agree y ss)
  node-agree ev ev' k (layer.Cond x a b) st u = bind_same (h x st u) (λ y s1 w. bind_same (truth_of-same n y s1 w) (choice-agree a b))
  node-agree ev ev' k (layer.Call name es) st u = bind_same (values-agree [] es st u) (call-same n name)

value-agree : {W : Type 0} → (levels n : ℕ) (ev ev' : (Evaluator W)) → EvaluatorsAgree n ev ev' → (e : ExprTree) → Agree n (value levels ev e) (value levels ev' e)
unfolding value
value-agree zero n ev ev' h e st u = with_itself u
value-agree (suc levels) n ev ev' h e st u = node-agree n (value levels ev) (value levels ev') (value-agree levels n ev ev' h) ev ev' h (out-ExprTree e) st u

-- ---- results

settled-by : {W : Type 0} → (n : ℕ) (x : Text) (r : Result ℤ WholeFault) → Agree {W = W} n (settled_by x r) (settled_by x r)
settled-by n x (Ok m) st u = with_itself u
settled-by n x (Err NotWhole) st u = with_itself u
settled-by n x (Err TooLarge) st u = with_itself u
settled-by n x (Err FloatForm) st u = with_itself u

pub result_agree : {W : Type 0} → (n : ℕ) (ev ev' : (Evaluator W)) → EvaluatorsAgree n ev ev' → (e : ExprTree) → Agree n (result ev e) (result ev' e)
result_agree n ev ev' h e st u = bind_same (value-agree max_tree n ev ev' h e st u) (λ x. settled-by n x (whole x))

pub test_agree : {W : Type 0} → (n : ℕ) (ev ev' : (Evaluator W)) → EvaluatorsAgree n ev ev' → (e : ExprTree) → Agree n (test ev e) (test ev' e)
test_agree n ev ev' h e st u = bind_same (result_agree n ev ev' h e st u) (truth_of-same n)

parsed-by : {W : Type 0} → (n : ℕ) (text : Text) (r : Result ExprTree ExprFault) → Agree {W = W} n (parsed_by text r) (parsed_by text r)
parsed-by n text (Ok e) st u = with_itself u
parsed-by n text (Err (f.Syntax at)) st u = with_itself u
parsed-by n text (Err (f.Bareword at len)) st u = with_itself u
parsed-by n text (Err (f.UnknownFunction at len)) st u = with_itself u
parsed-by n text (Err (f.WrongCount at len)) st u = with_itself u
parsed-by n text (Err (f.FloatLiteral at len)) st u = with_itself u
parsed-by n text (Err f.TooDeep) st u = with_itself u
parsed-by n text (Err f.TooLarge) st u = with_itself u
parsed-by n text (Err f.NoMemory) st u = with_itself u

pub parsed_same : {W : Type 0} → (n : ℕ) (text : Text) → Agree {W = W} n (parsed text) (parsed text)
parsed_same n text = parsed-by n text (expression text)

pub condition_agree : {W : Type 0} → (n : ℕ) (ev ev' : (Evaluator W)) → EvaluatorsAgree n ev ev' → (text : Text) → Agree n (condition ev text) (condition ev' text)
condition_agree n ev ev' h text st u = bind_same (parsed_same n text st u) (test_agree n ev ev' h)
