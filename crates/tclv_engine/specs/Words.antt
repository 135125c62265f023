-- What words stand for.
use Rattle.std.specs.Prelude.{ℕ, zero, suc, Bool, true, false, List, [], ◌∷◌, ◌++◌}
use Rattle.tclv_parse.specs.declared.tree.Part.{Part, out-Part}
use Rattle.tclv_parse.specs.declared.tree.Part.TheOpen as part
use Rattle.tclv_parse.specs.declared.tree.Word.{Word, out-Word}
use Rattle.tclv_parse.specs.declared.tree.Command.{Command}
use Rattle.tclv_parse.specs.declared.tree.Script.{Script}
use Rattle.tclv_model.specs.declared.messages.MessageId.TheVariants as message
use Rattle.tclv_model.specs.declared.error_codes.ErrorCode.TheVariants.{NoCode}
use Rattle.tclv_engine.specs.State.{Text, State}
use Rattle.tclv_engine.specs.Results.{Res, Outcome, done, bind, raise}
use Rattle.tclv_model.specs.Values.{list_of}
use Rattle.tclv_engine.specs.DataAnswers.{of_answer}
use Rattle.tclv_engine.specs.Variables.{variable, element_value}

-- What evaluates, as it is handed to what scripts stand in: a script, in an evaluation of its own; and words, which are run as one command, in
-- an evaluation of its own too.
pub record Evaluator (W : Type 0) : Type 0 where
  pub script : Script → (State W) → Res W Outcome
  pub words : List Text → (State W) → Res W Outcome

-- The value of a script in brackets is its result.
abbrev pub bracketed : {W : Type 0} → (Evaluator W) → Script → (State W) → Res W Text
bracketed ev s st = bind (ev.script s st) (λ o s1. done o.text s1)

-- The value of a part: a literal is itself, a variable is read, and a script runs. An element's value is given by `element`.
abbrev pub part_by : {W : Type 0} → (Evaluator W) → (Text → List Part → (State W) → Res W Text) → part.Part-F Part Command Script Word → (State W) → Res W Text
part_by ev element (part.Literal text) st = done text st
part_by ev element (part.Variable name) st = variable name st
part_by ev element (part.Element name index) st = element name index st
part_by ev element (part.Script script) st = bracketed ev script st

-- The parts from left to right, each once, joined; `before` is the text so far.
unfoldable pub joined : {W : Type 0} → (Part → (State W) → Res W Text) → Text → List Part → (State W) → Res W Text
joined value before [] st = done before st
joined value before (p ∷ ps) st = bind (value p st) (λ text s1. joined value (before ++ text) ps s1)

-- An element of the array of this name is read after its index was substituted. An index may hold elements at so many levels.
unfoldable pub element : {W : Type 0} → ℕ → (Evaluator W) → Text → List Part → (State W) → Res W Text
element zero ev name index st = raise message.TooManyNestedBrackets [] [] NoCode st
element (suc levels) ev name index st = bind (joined (λ p s. part_by ev (element levels ev) (out-Part p) s) [] index st) (λ text s1. element_value name text s1)

abbrev pub part_value : {W : Type 0} → ℕ → (Evaluator W) → Part → (State W) → Res W Text
part_value levels ev p st = part_by ev (element levels ev) (out-Part p) st

-- no script has elements at more levels
abbrev pub max_levels : ℕ
max_levels = 100

-- The text of a word: its parts from left to right, each once, joined.
abbrev pub substitution : {W : Type 0} → (Evaluator W) → List Part → (State W) → Res W Text
substitution ev parts st = joined (part_value max_levels ev) [] parts st

-- The words that a text gives. One with the expansion mark is read as a list, whose elements are the words.
abbrev pub expanded : {W : Type 0} → Bool → Text → (State W) → Res W (List Text)
expanded false text st = done (text ∷ []) st
expanded true text st = of_answer (list_of text) st

abbrev pub word : {W : Type 0} → (Evaluator W) → Word → (State W) → Res W (List Text)
word ev w st = bind (substitution ev (out-Word w).parts st) (λ text s1. expanded (out-Word w).expand text s1)

-- The words of a command from left to right; `before` are the words so far.
unfoldable pub words : {W : Type 0} → (Evaluator W) → List Text → List Word → (State W) → Res W (List Text)
words ev before [] st = done before st
words ev before (w ∷ ws) st = bind (word ev w st) (λ texts s1. words ev (before ++ texts) ws s1)
