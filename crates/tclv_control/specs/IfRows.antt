-- The row of `if`. All its clauses are read off its words before any test is evaluated. What is wrong with the words is what a test leads to, or
-- what counts where no test is true: so it is met only where the evaluation comes to it.
use Rattle.std.specs.Prelude.{ℕ, zero, suc, ◌+◌, Bool, false, if◌then◌else◌, List, [], ◌∷◌, ◌++◌, drop, length, codes}
use Rattle.std.specs.Str.{bytes_eq}
use Rattle.tclv_model.specs.declared.messages.MessageId.TheVariants as message
use Rattle.tclv_engine.specs.State.{Text, State}
use Rattle.tclv_engine.specs.Results.{Res, done}
use Rattle.tclv_engine.specs.Names.{bytes_of}
use Rattle.tclv_engine.specs.Usages.{call_word}
use Rattle.tclv_engine.specs.Plans.{Lead, Script, Refused, Nothing, Alternative, Wanted, Choice}

-- ---- bodies

-- the first of the words is this one
abbrev pub begins : List ℕ → List Text → Bool
begins word [] = false
begins word (w ∷ words) = bytes_eq (bytes_of w) word

-- What stands behind a word: a body, and the words behind it; or none, so that a body is missing behind that word.
pub data Sought : Type 0 where
  Body : Text → List Text → Sought
  Missing : Text → Sought

-- the first of the words, as a body; `before` stands before it
abbrev pub first_body : Text → List Text → Sought
first_body before [] = Missing before
first_body before (body ∷ words) = Body body words

-- The body behind a test; `then` may stand before it.
abbrev pub body_behind : Text → List Text → Sought
body_behind test words = if begins (codes "then") words then first_body (call_word words) (drop 1 words) else first_body test words

-- ---- what counts where no test is true

-- No word stands behind the last body.
abbrev pub last_body : Text → List Text → Lead
last_body body [] = Script body
last_body body (w ∷ words) = Refused message.ExtraWordsAfterElse []

-- a last body without `else`, or none
abbrev pub bare_body : List Text → Lead
bare_body [] = Nothing
bare_body (body ∷ words) = last_body body words

-- the body behind `else`
abbrev pub else_body : Sought → Lead
else_body (Body body words) = last_body body words
else_body (Missing word) = Refused message.NoScriptAfter word

-- what the words behind the last clause lead to; `else` may stand before the last body
abbrev pub last_lead : List Text → Lead
last_lead words = if begins (codes "else") words then else_body (first_body (call_word words) (drop 1 words)) else bare_body words

-- ---- clauses

-- tests with what each leads to, and what counts where none of them is true
pub record Clauses : Type 0 where
  pub alternatives : List Alternative
  pub last : Lead

-- no test: this counts at once
abbrev pub only : Lead → Clauses
only lead = record { alternatives = []; last = lead }

-- a test that leads there
abbrev pub leads : Text → Lead → Alternative
leads test lead = record { test = test; lead = lead }

-- these alternatives, and then those of the clauses
abbrev pub preceded : List Alternative → Clauses → Clauses
preceded before clauses = record { alternatives = before ++ clauses.alternatives; last = clauses.last }

-- What stands behind the body of a clause: another clause, whose word is `elseif` and which `next` reads, or what counts where no test is true.
abbrev pub behind_body : (Text → List Text → Clauses) → List Text → Clauses
behind_body next words = if begins (codes "elseif") words then next (call_word words) (drop 1 words) else only (last_lead words)

-- A test leads to its body. Where the body is missing, that is met whatever the test gives, but not before the test was evaluated.
abbrev pub behind_test : (Text → List Text → Clauses) → Text → Sought → Clauses
behind_test next test (Body body words) = preceded (leads test (Script body) ∷ []) (behind_body next words)
behind_test next test (Missing word) = preceded (leads test (Refused message.NoScriptAfter word) ∷ []) (only (Refused message.NoScriptAfter word))

-- a clause and those behind it; `word` stands before the test
abbrev pub clause : (Text → List Text → Clauses) → Text → List Text → Clauses
clause next word [] = only (Refused message.NoExpressionAfter word)
clause next word (test ∷ words) = behind_test next test (body_behind test words)

-- All clauses. There are not more than words.
unfoldable pub clauses : ℕ → Text → List Text → Clauses
clauses zero word words = only Nothing
clauses (suc n) word words = clause (clauses n) word words

-- the choice between clauses
abbrev pub choice : {K : Type 0} → Clauses → Wanted K
choice c = Choice c.alternatives c.last

-- `if expr1 ?then? body1 ?elseif expr2 ?then? body2? ... ?else? ?bodyN?`: what the first true test leads to, or the last lead
abbrev pub wanted_if : {W K : Type 0} → List Text → (State W) → Res W (Wanted K)
wanted_if words st = done (choice (clauses (length words) (call_word words) (drop 1 words))) st
