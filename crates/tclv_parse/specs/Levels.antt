-- How many brackets and indices stand in one another in the tree of a script.
use Rattle.std.specs.Prelude.{◌≡◌, ℕ, zero, suc, ◌≤◌, Bool, List, [], Ok}
use Rattle.std.specs.List.{AllByRecursion}
use Rattle.tclv_parse.specs.declared.tree.Part.{Part, out-Part}
use Rattle.tclv_parse.specs.declared.tree.Part.TheOpen as layer
use Rattle.tclv_parse.specs.declared.tree.Word.{Word, out-Word}
use Rattle.tclv_parse.specs.declared.tree.Command.{Command, out-Command}
use Rattle.tclv_parse.specs.declared.tree.Script.{Script, out-Script}
use Rattle.tclv_parse.specs.declared.tree.Part.TheVariants as part
use Rattle.tclv_parse.specs.declared.runs.Form.{Form}
use Rattle.tclv_parse.specs.declared.runs.Run.{Run}
use Rattle.tclv_parse.specs.Runs.{Text}
use Rattle.tclv_parse.specs.Readings.{done}
use Rattle.tclv_parse.specs.Grammar as g
use Rattle.tclv_parse.specs.Grammar.{commands, deeper_by, max_depth}

-- each part of the words of a command, and of a script
abbrev pub EachInWord : (Part → Type 0) → Word → Type 0
EachInWord P w = AllByRecursion P (out-Word w).parts

abbrev pub EachInCommand : (Part → Type 0) → Command → Type 0
EachInCommand P c = AllByRecursion (EachInWord P) (out-Command c).words

abbrev pub EachInScript : (Part → Type 0) → Script → Type 0
EachInScript P s = AllByRecursion (EachInCommand P) (out-Script s).commands

-- neither an index nor brackets
abbrev pub IsFlat : layer.Part-F Part Command Script Word → Type 0
IsFlat (layer.Literal text) = Unit {0}
IsFlat (layer.Variable name) = Unit {0}
IsFlat _ = ⊥

-- each part of its index, or of its script
abbrev pub EachInside : (Part → Type 0) → layer.Part-F Part Command Script Word → Type 0
EachInside P (layer.Literal text) = Unit {0}
EachInside P (layer.Variable name) = Unit {0}
EachInside P (layer.Element name index) = AllByRecursion P index
EachInside P (layer.Script s) = EachInScript P s

-- in the part at most so many brackets and indices stand in one another
unfoldable pub HasLevels : ℕ → Part → Type 0
HasLevels zero p = IsFlat (out-Part p)
HasLevels (suc n) p = EachInside (HasLevels n) (out-Part p)

-- no script has more levels than 100
abbrev pub ScriptsHaveLevels : Type 0
ScriptsHaveLevels = (t : Text) → EachInScript (HasLevels max_depth) (commands t)

-- Nor has what the readers of words give to other grammars: the parts of a word, a variable, and a script in brackets.
pub record ReadersHaveLevels : Type 0 where
  pub parts : (whole : ℕ) (inner : Bool) (form : Form) (t u : Text) (ps : List Part) → (g.parts (deeper_by whole max_depth) inner form t).1 ≡ Ok (ps, u) → AllByRecursion (HasLevels max_depth) ps
  pub variable : (whole n : ℕ) (inner : Bool) (r : Run) (t u : Text) (ps : List Part) → (g.variable_by (deeper_by whole max_depth) inner (done []) t n r).1 ≡ Ok (ps, u) → AllByRecursion (HasLevels max_depth) ps
  pub script : (whole : ℕ) (t u : Text) (x : Script) → ((deeper_by whole max_depth).script t).1 ≡ Ok (x, u) → HasLevels max_depth (part.Script x)

-- and a greater bound holds too
abbrev pub BoundsGrow : Type 0
BoundsGrow = (n m : ℕ) (p : Part) → n ≤ m → HasLevels n p → HasLevels m p
