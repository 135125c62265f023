-- Loops over lists: in each turn some variables get the next values of their lists.
use Rattle.std.specs.Prelude.{ℕ, zero, suc, ◌+◌, ◌-◌, ◌*◌, ◌/◌, ◌==◌, Bool, true, false, if◌then◌else◌, max, List, [], ◌∷◌, ◌++◌, length, drop}
use Rattle.tclv_text.specs.Quotes.{list_text}
use Rattle.tclv_parse.specs.declared.tree.Script.{Script}
use Rattle.tclv_parse.specs.Grammar.{commands}
use Rattle.tclv_model.specs.declared.messages.MessageId.{MessageId}
use Rattle.tclv_model.specs.Values.{list_of}
use Rattle.tclv_model.specs.declared.error_codes.ErrorCode.TheVariants.{NoCode}
use Rattle.tclv_engine.specs.State.{Text, State}
use Rattle.tclv_engine.specs.Results.{Res, Outcome, bind, done, ok, raise}
use Rattle.tclv_engine.specs.Units.{take_unit}
use Rattle.tclv_engine.specs.Words.{Evaluator}
use Rattle.tclv_engine.specs.DataAnswers.{of_answer}
use Rattle.tclv_engine.specs.ListAssignment.{assign_each}
use Rattle.tclv_engine.specs.Loops.{Turn, Gave, Skipped, Broke, body}

-- ---- groups

-- Some variables, by their names, and the values that they take in turns.
abbrev pub Group : Type 0
Group = List Text × List Text

abbrev pub some_names : {W : Type 0} → MessageId → List Text → (State W) → Res W (List Text)
some_names empty [] st = raise empty [] [] NoCode st
some_names empty (name ∷ names) st = done (name ∷ names) st

-- a list of names, of which there must be one, and a list of values
abbrev pub group_of : {W : Type 0} → MessageId → Text → Text → (State W) → Res W Group
group_of empty names list st =
    bind (of_answer (list_of names) st) (λ ns s1.
    bind (some_names empty ns s1) (λ some s2.
    bind (of_answer (list_of list) s2) (λ values s3. done (some, values) s3)))

-- The groups that words give, two each, from the left; `before` are the groups so far.
unfoldable pub groups_of : {W : Type 0} → MessageId → List Group → List Text → (State W) → Res W (List Group)
groups_of empty before (names ∷ list ∷ words) st = bind (group_of empty names list st) (λ g s1. groups_of empty (before ++ g ∷ []) words s1)
groups_of empty before words st = done before st

-- ---- turns

-- so many turns that each value is taken
abbrev pub turns_of : Group → ℕ
turns_of g = let values = length g.1 in if values == 0 then 0 else (values - 1) / length g.0 + 1

abbrev pub turn_count : List Group → ℕ
turn_count [] = 0
turn_count (g ∷ gs) = max (turns_of g) (turn_count gs)

-- In the turn of a number, counted from 0, the variables of each group get the values that come next, and the empty text where values are missing.
unfoldable pub assign_groups : {W : Type 0} → ℕ → List Group → (State W) → Res W (Unit {0})
assign_groups k [] st = done tt st
assign_groups k (g ∷ gs) st = bind (assign_each g.0 (drop (k * length g.0) g.1) st) (λ u s1. assign_groups k gs s1)

-- A turn takes a unit. Then the variables get their values, and then the body runs.
abbrev pub each_turn : {W : Type 0} → (Evaluator W) → Script → List Group → ℕ → (State W) → Res W Turn
each_turn ev script groups k st = bind (take_unit st) (λ u s1. bind (assign_groups k groups s1) (λ a s2. body ev script s2))

-- what follows a turn: more turns, but behind a break; a result is kept
abbrev pub behind : {W : Type 0} → Turn → (List Text → (State W) → Res W (List Text)) → List Text → (State W) → Res W (List Text)
behind (Gave text) more results st = more (results ++ text ∷ []) st
behind Skipped more results st = more results st
behind Broke more results st = done results st

-- So many turns from a number on; `results` are those of the bodies so far that ended ok.
unfoldable pub each_turns : {W : Type 0} → (ℕ → (State W) → Res W Turn) → ℕ → ℕ → List Text → (State W) → Res W (List Text)
each_turns turn zero k results st = done results st
each_turns turn (suc n) k results st = bind (turn k st) (λ t s1. behind t (each_turns turn n (k + 1)) results s1)

-- ---- all turns

-- All turns of groups. The result is made of those of the bodies.
abbrev pub each_of : {W : Type 0} → (List Text → Text) → (Evaluator W) → Text → List Group → (State W) → Res W Outcome
each_of result ev script groups st = bind (each_turns (each_turn ev (commands script) groups) (turn_count groups) 0 [] st) (λ results s1. ok (result results) s1)

-- the result of the command, by whether results are kept
abbrev pub result_of : Bool → List Text → Text
result_of true results = list_text results
result_of false results = []
