-- The grammar of expressions, by precedence.
use Rattle.std.specs.Prelude.{◌≡◌, ℕ, zero, suc, ◌+◌, Bool, false, ◌==◌, nat_lt, if◌then◌else◌, List, [], ◌∷◌, take, drop, length, Option, Some, None, Result, Ok, Err, ℤ}
use Rattle.tclv_text.specs.Cursors.{sign, size}
use Rattle.tclv_text.specs.declared.cursors.Sign.{Sign}
use Rattle.tclv_text.specs.declared.cursors.Sign.TheVariants as s
use Rattle.tclv_text.specs.declared.numbers.WholeFault.{WholeFault}
use Rattle.tclv_text.specs.declared.numbers.WholeFault.TheVariants as w
use Rattle.tclv_text.specs.Numbers.{whole}
use Rattle.tclv_text.specs.Truths.{truth}
use Rattle.tclv_parse.specs.declared.runs.Form.TheVariants as form
use Rattle.tclv_parse.specs.declared.runs.Run.TheVariants as run
use Rattle.tclv_parse.specs.declared.tree.Part.{Part}
use Rattle.tclv_parse.specs.declared.tree.Part.TheVariants as part
use Rattle.tclv_parse.specs.Fix.{fix}
use Rattle.tclv_parse.specs.Runs.{Text, run_end}
use Rattle.tclv_parse.specs.Runs as script
use Rattle.tclv_parse.specs.Readings.{done}
use Rattle.tclv_parse.specs.Grammar.{Deeper, deeper_by, max_depth, variable_by, parts, place}
use Rattle.tclv_parse.specs.Grammar as script_grammar
use Rattle.tclv_exprp.specs.declared.faults.Fault.{Fault}
use Rattle.tclv_exprp.specs.declared.faults.Fault.TheVariants.{Syntax, Bareword, UnknownFunction, WrongCount, FloatLiteral, TooLarge, TooDeep}
use Rattle.tclv_exprp.specs.declared.faults.ExprFault.{ExprFault}
use Rattle.tclv_exprp.specs.declared.faults.ExprFault.TheVariants as e
use Rattle.tclv_exprp.specs.declared.fronts.Class.TheVariants as class
use Rattle.tclv_exprp.specs.declared.functions.Count.{Count}
use Rattle.tclv_exprp.specs.declared.operands.Begins.{Begins}
use Rattle.tclv_exprp.specs.declared.operands.Begins.TheVariants as b
use Rattle.tclv_exprp.specs.declared.operators.Infix.{Infix}
use Rattle.tclv_exprp.specs.declared.tree.Step.{Step, roll-Step}
use Rattle.tclv_exprp.specs.declared.tree.ExprTree.{ExprTree}
use Rattle.tclv_exprp.specs.declared.tree.ExprTree.TheVariants as tree
use Rattle.tclv_exprp.specs.Fronts.{first, blanks, run_len, sign_len}
use Rattle.tclv_exprp.specs.Numerals.{whole_len, floating_len, lacks_digits}
use Rattle.tclv_exprp.specs.Functions.{arity, takes}
use Rattle.tclv_exprp.specs.Infixes.{at_level, behind, levels, power_level}
use Rattle.tclv_exprp.specs.Infixes as infixes
use Rattle.tclv_exprp.specs.Operands.{start}
use Rattle.tclv_exprp.specs.Operands as operands
use Rattle.tclv_exprp.specs.Outcomes.{Outcome, Parser, and_then, after, leaf, expr_fault}

-- readers of an operand, of a power, and of an expression
abbrev pub Readers : Type 0
Readers = Parser ExprTree × Parser ExprTree × Parser ExprTree

-- ---- trees

abbrev pub step : Infix → ExprTree → Step
step op right = roll-Step (record { op = op; right = right })

-- operands and the operators of one row between them; one operand alone is itself
abbrev pub chained : ExprTree → List Step → ExprTree
chained x [] = x
chained x (y ∷ ys) = tree.Chain x (y ∷ ys)

-- a chain of one step
abbrev pub lone : ExprTree → Infix → ExprTree → ExprTree
lone x op y = tree.Chain x (step op y ∷ [])

-- ---- what is passed over

abbrev pub behind_by : Text → Option Infix → Text
behind_by t None = t
behind_by t (Some op) = behind op (blanks t)

-- behind white space and the operator there, if there is one
unfoldable pub behind_blanks : Option Infix → Text → Text
behind_blanks op t = behind_by t op

-- behind white space and this character, if it comes there
unfoldable pub behind_mark : ℕ → Text → Text
behind_mark mark t = if first (blanks t) == mark then drop 1 (blanks t) else t

-- ---- precedence

-- operators of one row, each with its right operand
module _ (tighter : Parser ExprTree) (level : ℕ) where
  abbrev pub steps_by : Parser (List Step) → Text → Option Infix → Outcome (List Step)
  steps_by more t None = Ok ([], t)
  steps_by more t (Some op) = and_then (tighter (behind op (blanks t))) (λ x u. after (step op x ∷ []) (more u))

  abbrev pub steps_step : Parser (List Step) → Parser (List Step)
  steps_step more t = steps_by more t (at_level level (blanks t))

  unfoldable pub steps : Parser (List Step)
  steps = fix steps_step (Err TooDeep)

-- An expression of the rows below this one: operands of the next tighter row, and the operators of the row between them.
unfoldable pub binary : Parser ExprTree → ℕ → Parser ExprTree
binary powers zero t = powers t
binary powers (suc level) t = and_then (binary powers level t) (λ x u. and_then (steps (binary powers level) level u) (λ ys v. Ok (chained x ys, v)))

-- ---- ends of leaves

abbrev pub end_quote_by : ℕ → List Part → Text → Sign → Outcome ExprTree
end_quote_by at ps t s.Quote = Ok (tree.Parts ps, drop 1 t)
end_quote_by at ps t _ = Err (Syntax at)

-- the closing mark of a text in quotes that begins at this byte
unfoldable pub end_quote : ℕ → List Part → Parser ExprTree
end_quote at ps t = end_quote_by at ps t (sign t)

-- what is wrong with a word that is neither a function nor a truth value
abbrev pub bareword : ℕ → ℕ → Result ℤ WholeFault → Fault
bareword at len (Err w.FloatForm) = FloatLiteral at len
bareword at len _ = Bareword at len

abbrev pub word_by : ℕ → ℕ → Text → Text → Option Bool → Outcome ExprTree
word_by at len x t (Some v) = Ok (tree.Literal x, t)
word_by at len x t None = Err (bareword at len (whole x))

-- a word that is no function's name: a truth value
unfoldable pub word : ℕ → ℕ → Text → Parser ExprTree
word at len x t = word_by at len x t (truth x)

abbrev pub sized_by : Text → Text → Result ℤ WholeFault → Outcome ExprTree
sized_by x t (Err w.TooLarge) = Err TooLarge
sized_by x t _ = Ok (tree.Literal x, t)

-- a whole number, which needs no more than 64 bits
unfoldable pub sized : Text → Parser ExprTree
sized x t = sized_by x t (whole x)

-- In all that follows, `total` is how many bytes the whole text has.
module _ (total : ℕ) where
  -- ---- faults of syntax

  -- the first character that no operand can have here
  abbrev pub no_operand : Text → Fault
  no_operand t = Syntax (place total (drop (operands.half_len t) t))

  -- the first character that can't stand here behind an operand
  abbrev pub stray : Text → Fault
  stray t = Syntax (place total (drop (infixes.half_len t) t))

  -- ---- leaves

  abbrev pub number_by : Text → Text → ℕ → Outcome ExprTree
  number_by t u n =
      if nat_lt (whole_len u) (floating_len u) then Err (FloatLiteral (place total t) (n + floating_len u))
      else (if lacks_digits u then Err (Syntax (place total (drop 2 u)))
      else sized (take (n + whole_len u) t) (drop (n + whole_len u) t))

  -- A number with the sign before it. It stays as it is written. One of floating form is refused, and one that needs more than 64 bits; behind the
  -- letter of a base a digit must come.
  unfoldable pub number : Parser ExprTree
  number t = number_by t (drop (sign_len t) t) (sign_len t)

  -- a variable, or an element
  unfoldable pub variable : Parser ExprTree
  variable t = and_then (leaf (place total t) (variable_by (deeper_by total max_depth) false (done []) t (script.run_len run.Variable t) (run_end run.Variable t)).1) (λ ps u. Ok (tree.Parts ps, u))

  -- a text in quotes, with substitution
  unfoldable pub quoted : Parser ExprTree
  quoted t = and_then (leaf (place total t) (parts (deeper_by total max_depth) false form.Quoted (drop 1 t)).1) (end_quote (place total t))

  -- a text in braces, raw
  unfoldable pub braced : Parser ExprTree
  braced t = and_then (leaf (place total t) (script_grammar.braced (drop 1 t) 0).1) (λ x u. Ok (tree.Literal x, u))

  -- a script in brackets
  unfoldable pub bracketed : Parser ExprTree
  bracketed t = and_then (leaf (place total t) ((deeper_by total max_depth).script t).1) (λ x u. Ok (tree.Parts (part.Script x ∷ []), u))

  -- ---- functions

  module _ (argument : Parser ExprTree) where
    abbrev pub more_step : Parser (List ExprTree) → Parser (List ExprTree)
    more_step more t =
        if first (blanks t) == 44 then and_then (argument (drop 1 (blanks t))) (λ x u. after (x ∷ []) (more u))
        else (if first (blanks t) == 41 then Ok ([], drop 1 (blanks t))
        else Err (stray (blanks t)))

    -- behind an argument: further ones, each behind a comma, up to the closing parenthesis
    unfoldable pub more_arguments : Parser (List ExprTree)
    more_arguments = fix more_step (Err TooDeep)

    -- the arguments of a call, if there are any, up to the closing parenthesis
    unfoldable pub arguments : Parser (List ExprTree)
    arguments t = if first (blanks t) == 41 then Ok ([], drop 1 (blanks t)) else and_then (argument t) (λ x u. after (x ∷ []) (more_arguments u))

    abbrev pub counted : ℕ → ℕ → Text → Count → List ExprTree → Text → Outcome ExprTree
    counted at len x count xs t = if takes count (length xs) then Ok (tree.Call x xs, t) else Err (WrongCount at len)

    abbrev pub call_by : ℕ → ℕ → Text → Text → Option Count → Outcome ExprTree
    call_by at len x t None = Err (UnknownFunction at len)
    call_by at len x t (Some count) = and_then (arguments t) (counted at len x count)

    abbrev pub named_by : ℕ → ℕ → Text → Text → Outcome ExprTree
    named_by at len x t = if first (blanks t) == 40 then call_by at len x (drop 1 (blanks t)) (arity x) else word at len x t

    -- A name of letters, digits and underscores: with a parenthesis behind it that of a function, else a truth value.
    unfoldable pub named : Parser ExprTree
    named t = let len = run_len class.Name t in named_by (place total t) len (take len t) (drop len t)

  -- ---- operands, where r reads what stands one level further in

  abbrev pub deep_by : Text → Begins → Outcome ExprTree
  deep_by t b.Other = Err (no_operand t)
  deep_by t _ = Err TooDeep

  -- no level is left for an operand
  unfoldable pub deep : Parser ExprTree
  deep t = deep_by (blanks t) (start (blanks t))

  -- the closing parenthesis behind x
  unfoldable pub closed : ExprTree → Parser ExprTree
  closed x t = if first (blanks t) == 41 then Ok (x, drop 1 (blanks t)) else Err (stray (blanks t))

  module _ (r : Readers) where
    abbrev pub operand_by : Text → Begins → Outcome ExprTree
    operand_by t b.Number = number t
    operand_by t (b.Unary op) = and_then (r.0 (drop 1 t)) (λ x u. Ok (tree.Unary op x, u))
    operand_by t b.Variable = variable t
    operand_by t b.Quoted = quoted t
    operand_by t b.Braced = braced t
    operand_by t b.Script = bracketed t
    operand_by t b.Paren = and_then (r.2 (drop 1 t)) closed
    operand_by t b.Name = named r.2 t
    operand_by t b.Other = Err (no_operand t)

    -- an operand with its unary operators
    unfoldable pub operand : Parser ExprTree
    operand t = operand_by (blanks t) (start (blanks t))

    abbrev pub power_by : ExprTree → Text → Option Infix → Outcome ExprTree
    power_by x t None = Ok (x, t)
    power_by x t (Some op) = and_then (r.1 (behind op (blanks t))) (λ y u. Ok (lone x op y, u))

    -- an operand, or one to the power of a power
    unfoldable pub power : Parser ExprTree
    power t = and_then (operand t) (λ x u. power_by x u (at_level power_level (blanks u)))

    -- the third operand of a choice
    unfoldable pub otherwise : ExprTree → ExprTree → Parser ExprTree
    otherwise x y t = if first (blanks t) == 58 then and_then (r.2 (drop 1 (blanks t))) (λ z u. Ok (tree.Cond x y z, u)) else Err (stray (blanks t))

    -- x, or the choice that it is the test of
    unfoldable pub choice : ExprTree → Parser ExprTree
    choice x t = if first (blanks t) == 63 then and_then (r.2 (drop 1 (blanks t))) (otherwise x) else Ok (x, t)

    -- an expression
    unfoldable pub expr : Parser ExprTree
    expr t = and_then (binary power levels t) choice

  -- ---- nesting

  -- the readers where so many levels are left, this one included
  unfoldable pub readers : ℕ → Readers
  readers zero = (deep, deep, deep)
  readers (suc room) = (operand (readers room), power (readers room), expr (readers room))

  -- ---- whole texts

  abbrev pub finished : ExprTree → Text → Result ExprTree ExprFault
  finished x [] = Ok x
  finished x (c ∷ t) = Err (expr_fault (stray (c ∷ t)))

  abbrev pub whole_by : Outcome ExprTree → Result ExprTree ExprFault
  whole_by (Ok p) = finished p.0 (blanks p.1)
  whole_by (Err e) = Err (expr_fault e)

-- an operand stands inside at most 100 levels
abbrev pub max_room : ℕ
max_room = 101

-- the expression that a text is, or its first fault from the left
unfoldable pub expression : Text → Result ExprTree ExprFault
expression t = whole_by (size t) ((readers (size t) max_room).2 t)

-- A function that reads a whole text answers with its tree or its fault, unless memory runs out.
abbrev pub Answers : Result ExprTree ExprFault → Result ExprTree ExprFault → Type 0
Answers meaning (Ok x) = meaning ≡ Ok x
Answers meaning (Err e.NoMemory) = Unit {0}
Answers meaning (Err x) = meaning ≡ Err x

-- ---- laws

-- No count of turns shows in the chain of a row: behind an operand comes an operator of the row, its right operand, and the same again.
abbrev pub RowsAreChains : Type 0
RowsAreChains =
    (total room level : ℕ) (t : Text) →
    let tighter = binary (readers total room).1 level in
    steps tighter level t ≡ steps_by tighter level (steps tighter level) t (at_level level (blanks t))

-- Nor does one in the arguments of a call.
abbrev pub ArgumentsAreLists : Type 0
ArgumentsAreLists =
    (total room : ℕ) (t : Text) →
    let argument = (readers total room).2 in
    more_arguments total argument t ≡ more_step total argument (more_arguments total argument) t
