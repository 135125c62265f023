-- What the reader of trees reads, by the rules of the grammar, and what is still to come.
use Rattle.std.specs.Prelude.{◌≡◌, Bool, true, false, List, [], ◌++◌, Option, Some, None, Result, Ok, Err}
use Rattle.tclv_parse.specs.declared.faults.ParseFault.{ParseFault}
use Rattle.tclv_parse.specs.declared.faults.ParseFault.TheVariants as f
use Rattle.tclv_parse.specs.declared.runs.Form.{Form}
use Rattle.tclv_parse.specs.declared.runs.Run.TheVariants as run
use Rattle.tclv_parse.specs.declared.tree.Part.{Part}
use Rattle.tclv_parse.specs.declared.tree.Word.{Word}
use Rattle.tclv_parse.specs.declared.tree.Command.{Command}
use Rattle.tclv_parse.specs.declared.tree.Script.{Script}
use Rattle.tclv_parse.specs.declared.joining.Found.{Found}
use Rattle.tclv_parse.specs.declared.readers.Reader.{Reader}
use Rattle.tclv_parse.specs.Runs.{Text, run_len, run_end}
use Rattle.tclv_parse.specs.Readings.{Reading, End, done, valued_end}
use Rattle.tclv_parse.specs.Grammar as g
use Rattle.tclv_parse.specs.Trees.{parts_before}

-- the readers of what stands one level deeper
abbrev pub deeper : Reader → g.Deeper
deeper r = g.deeper_by r.whole r.depth

-- a variable alone, with its index
abbrev pub variable : Reader → Text → Reading (List Part)
variable r t = g.variable_by (deeper r) r.inner (done []) t (run_len run.Variable t) (run_end run.Variable t)

abbrev pub parts : Reader → Form → Text → Reading (List Part)
parts r form t = g.parts (deeper r) r.inner form t

abbrev pub plain_word : Reader → Text → Reading (List Part)
plain_word r t = g.plain_word (deeper r) r.inner t

abbrev pub word : Reader → Text → Reading Word
word r t = g.word (deeper r) r.inner t

abbrev pub words : Reader → Text → Reading (List Word)
words r t = g.words (deeper r) r.inner t

-- The commands of a script before its first fault, and the text behind it or the fault.
abbrev pub Run : Type 0
Run = List Command × Result Text ParseFault

abbrev pub commands : Reader → Text → Run
commands r t = (g.script r.whole (deeper r) r.inner t).1

-- ---- what is still to come, behind what was found

unfoldable pub parts_ahead : Reader → Form → Found → Text → End (List Part)
parts_ahead r form found t = valued_end (parts_before found) (parts r form t).1

unfoldable pub words_ahead : Reader → List Word → Text → End (List Word)
words_ahead r found t = valued_end (λ ws. found ++ ws) (words r t).1

abbrev pub behind : List Command → Run → Run
behind found run = (found ++ run.0, run.1)

unfoldable pub commands_ahead : Reader → List Command → Text → Run
commands_ahead r found t = behind found (commands r t)

-- ---- scripts

-- the fault of a script that ends with its text
abbrev pub end_fault : Bool → Option ParseFault
end_fault true = Some f.CloseBracket
end_fault false = None

-- a script was read, and the text behind it or the fault
abbrev pub Runs : Run → Script → Text → Type 0
Runs (cs, Ok t) script new = (script ≡ g.script_of cs None) × (new ≡ t)
Runs (cs, Err e) script new = script ≡ g.script_of cs (Some e)
