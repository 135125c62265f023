-- What the words of `switch` ask for, and which clause is chosen.
use Rattle.std.specs.Prelude.{◌≡◌, ◌+◌, ◌<◌, ◌≤◌, ℕ, Bool, true, false, ◌||◌, if◌then◌else◌, List, [], ◌∷◌, map, length, drop, Option, Some, None, Result, IfOk, IfErr, slice_index_or, codes}
use Rattle.std.specs.List.{All}
use Rattle.std.specs.Str.{bytes_eq}
use Rattle.tclv_text.specs.Globs.{matches}
use Rattle.tclv_model.specs.declared.data_commands.CmdFault.{CmdFault}
use Rattle.tclv_model.specs.declared.messages.MessageId.TheVariants.{BadOption, SwitchPatternWithoutBody, NoBodyForPattern}
use Rattle.tclv_model.specs.Rows.{Answer, Gives, Refuses, and_then, says, wrong_count}
use Rattle.tclv_model.specs.Usages.{usage_of}
use Rattle.tclv_model.specs.declared.usages.Usage.TheVariants as usages
use Rattle.tclv_model.specs.Values.{list_of}
use Rattle.tclv_value.specs.View.{View}
use Rattle.tclv_value.specs.Changes.{KeepsTexts}
use Rattle.tclv_reply.specs.Replies.{IsRefused}
use Rattle.tclv_ctl.specs.Steps.{IsShown}
use Rattle.tclv_reply.specs.Comparing.{fits_pattern}
use Rattle.tclv_reply.specs.declared.comparing.Matching.{Matching}
use Rattle.tclv_reply.specs.declared.comparing.Matching.TheVariants.{Exact, Glob}
use Rattle.tclv_ctl.specs.declared.switching.Leading.{Leading}
use Rattle.tclv_ctl.specs.declared.switching.Leading.TheVariants.{Compare, NoCase, EndOfOptions, Unknown, Plain}
use Rattle.tclv_ctl.specs.declared.switching.ClausePlaces.{ClausePlaces}
use Rattle.tclv_ctl.specs.declared.switching.AskedPlaces.{AskedPlaces}
use Rattle.tclv_ctl.specs.declared.switching.SwitchPlan.{SwitchPlan}

abbrev pub Text : Type 0
Text = List ℕ

-- How a pattern is compared with the string: for being the same text or as a glob, and with ASCII letters in lower case or as they are.
pub record Manner : Type 0 where
  pub matching : Matching
  pub nocase : Bool

-- a pattern and the body that belongs to it
abbrev pub SwitchClause : Type 0
SwitchClause = Text × Text

-- what `switch` is asked for
pub record Choice : Type 0 where
  pub manner : Manner
  pub string : Text
  pub clauses : List SwitchClause

-- ---- options

-- what a word says where an option may stand
abbrev pub leading : Text → Leading
leading w =
    if bytes_eq w (codes "-exact") then Compare Exact
    else (if bytes_eq w (codes "-glob") then Compare Glob
    else (if bytes_eq w (codes "-nocase") then NoCase
    else (if bytes_eq w (codes "--") then EndOfOptions
    else (if matches false (codes "-*") w then Unknown
    else Plain))))

-- The manner that the options before the string give, and the words from the string on.
abbrev pub Asked : Type 0
Asked = Manner × List Text

-- A word w that says this: an option changes the manner, and `more` reads the words behind it; `--` ends the options; a word without `-` before it is no option.
abbrev pub option : Leading → Manner → Text → List Text → (Manner → Answer Asked) → Answer Asked
option (Compare x) m w behind more = more (record { matching = x; nocase = m.nocase })
option NoCase m w behind more = more (record { matching = m.matching; nocase = true })
option EndOfOptions m w behind more = Gives (m, behind)
option Unknown m w behind more = says BadOption w []
option Plain m w behind more = Gives (m, w ∷ behind)

-- Options are read while two more words follow.
abbrev pub options : Manner → List Text → Answer Asked
options m (w ∷ u ∷ v ∷ ws) = option (leading w) m w (u ∷ v ∷ ws) (λ changed. options changed (u ∷ v ∷ ws))
options m (u ∷ v ∷ []) = Gives (m, u ∷ v ∷ [])
options m (v ∷ []) = Gives (m, v ∷ [])
options m [] = Gives (m, [])

-- ---- clauses

-- the words behind the string; one alone is the list of them
abbrev pub clause_words : List Text → Answer (List Text)
clause_words (list ∷ []) = list_of list
clause_words (w ∷ v ∷ ws) = Gives (w ∷ v ∷ ws)
clause_words [] = Gives []

abbrev pub is_dash : Text → Bool
is_dash body = bytes_eq body (codes "-")

-- the first body that is no `-`, of words that are patterns and bodies in turn
abbrev pub next_body : List Text → Text
next_body (pattern ∷ body ∷ words) = if is_dash body then next_body words else body
next_body (pattern ∷ []) = []
next_body [] = []

-- the clauses of such words: each pattern has the next body that is no `-`
abbrev pub pairs : List Text → List SwitchClause
pairs (pattern ∷ body ∷ words) = (pattern, next_body (pattern ∷ body ∷ words)) ∷ pairs words
pairs (pattern ∷ []) = []
pairs [] = []

-- what follows where the words, two by two, end with a body that is no `-`
abbrev pub ended : {A : Type 0} → List Text → Answer A → Answer A
ended [] rest = rest
ended (pattern ∷ []) rest = says SwitchPatternWithoutBody [] []
ended (pattern ∷ body ∷ []) rest = if is_dash body then says NoBodyForPattern pattern [] else rest
ended (pattern ∷ body ∷ next ∷ words) rest = ended (next ∷ words) rest

abbrev pub clauses : List Text → Answer (List SwitchClause)
clauses words = ended words (Gives (pairs words))

-- ---- what is pushed

abbrev pub given_words : Answer (List Text) → List Text
given_words (Gives words) = words
given_words (Refuses kind message code) = []

-- the elements of the one word behind the string that is the list of the clauses; none where each clause has words of its own
abbrev pub held_clauses : List Text → List Text
held_clauses (list ∷ []) = given_words (list_of list)
held_clauses _ = []

abbrev pub pushed_for : Answer Asked → List Text
pushed_for (Gives asked) = held_clauses (drop 1 asked.1)
pushed_for (Refuses kind message code) = []

-- ---- the row

abbrev pub usage : Text
usage = usage_of usages.Switch

-- what the words from the string on ask for, which are at least two
abbrev pub choice : Text → Manner → List Text → Answer Choice
choice call m (string ∷ w ∷ ws) = and_then (clause_words (w ∷ ws)) (λ words. and_then (clauses words) (λ cs. Gives (record { manner = m; string = string; clauses = cs })))
choice call m (string ∷ []) = wrong_count call usage
choice call m [] = wrong_count call usage

-- without options patterns are compared for being the same text
abbrev pub plain : Manner
plain = record { matching = Exact; nocase = false }

-- `switch ?option ...? string ?pattern body ...? ?default body?`
abbrev pub row_switch : Text → List Text → Answer Choice
row_switch call words = and_then (options plain words) (λ asked. choice call asked.0 asked.1)

-- ---- the clause that is chosen

-- The clause, with these behind it, is the one for all other strings: `default` as the last pattern.
abbrev pub is_default : SwitchClause → List SwitchClause → Bool
is_default c [] = bytes_eq c.0 (codes "default")
is_default c (d ∷ cs) = false

-- the body of the first clause whose pattern fits the string or that is for all others
abbrev pub fitting_body : Manner → Text → List SwitchClause → Option Text
fitting_body m string [] = None
fitting_body m string (c ∷ cs) = if is_default c cs || fits_pattern m.matching m.nocase c.0 string then Some c.1 else fitting_body m string cs

-- ---- plans

-- the texts of a clause's places
abbrev pub clause_in : List Text → ClausePlaces → SwitchClause
clause_in stack c = (slice_index_or stack c.pattern [], slice_index_or stack c.body [])

abbrev pub IsInside : List Text → ClausePlaces → Type 0
IsInside stack c = (c.pattern < length stack) × (c.body < length stack)

-- the places of these clauses have their texts
pub record AreClausesAt (cs : List SwitchClause) (places : List ClausePlaces) (stack : List Text) : Type 0 where
  pub inside : All (IsInside stack) places
  pub are : cs ≡ map (clause_in stack) places

-- the manner of a plan
abbrev pub plan_manner : SwitchPlan → Manner
plan_manner plan = record { matching = plan.matching; nocase = plan.nocase }

-- what a plan's clauses choose, by the texts of its places
abbrev pub chosen_by : SwitchPlan → List Text → Option Text
chosen_by plan stack = fitting_body (plan_manner plan) (slice_index_or stack plan.string []) (map (clause_in stack) plan.clauses.items)

-- The places of a plan have the texts of what is asked for.
pub record IsPlanOf (asked : Choice) (plan : SwitchPlan) (stack : List Text) : Type 0 where
  pub matching : plan.matching ≡ asked.manner.matching
  pub nocase : plan.nocase ≡ asked.manner.nocase
  pub string_inside : plan.string < length stack
  pub string : slice_index_or stack plan.string [] ≡ asked.string
  pub clauses : AreClausesAt asked.clauses plan.clauses.items stack

-- What the call answers whose row, at its n words, is this. The elements of the list of clauses may stand above the words. The cells keep their texts.
pub record Plans (row : Answer Choice) (n : ℕ) (old new : View) (result : Result SwitchPlan CmdFault) : Type 0 where
  pub gives : IfOk result (λ plan. IsShown row IsPlanOf plan old new)
  pub refuses : IfErr result (λ kind. IsRefused row kind n old new)
  pub cells : new.cells ≡ old.cells

-- ---- steps

-- the manner of the options that were read
abbrev pub manner_of : AskedPlaces → Manner
manner_of asked = record { matching = asked.matching; nocase = asked.nocase }

-- the options that were read, and the words from the string on, which are the top ones
pub record IsAskedAt (a : Asked) (asked : AskedPlaces) (stack : List Text) : Type 0 where
  pub within : asked.string + 2 ≤ length stack
  pub is : a ≡ (manner_of asked, drop asked.string stack)

-- these words are the top ones, from this place on
pub record IsFrom (words : List Text) (from : ℕ) (stack : List Text) : Type 0 where
  pub within : from ≤ length stack
  pub is : words ≡ drop from stack

-- The answer gives the clauses that these places show.
pub record ReadsClauses (answer : Answer (List SwitchClause)) (places : List ClausePlaces) (old new : View) : Type 0 where
  pub read : List SwitchClause
  pub given : answer ≡ Gives read
  pub shown : AreClausesAt read places new.stack
  pub kept : KeepsTexts old new
