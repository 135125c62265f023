-- What a call of a procedure wants, by what the binding of its words leaves on the stack.
use Rattle.std.proofs.Common.{◌≡◌, ℕ, zero, suc, ◌+◌, ◌-◌, ◌<◌, ◌≤◌, List, [], ◌∷◌, ◌++◌, length, take, drop, get_or, sym, ap, ◌∙◌, subst, refl, arith, Bool, true, false, if◌then◌else◌, Result, Ok, Err, Option, Some, None, length-append, length-take}
use Rattle.std.proofs.lemmas.List.{drop_more, drop_all, get_or-take}
use Rattle.std.proofs.Math.Seq.{take-append_seam}
use Rattle.std.specs.Prelude.{OnOk, IfErr}
use Rattle.std.specs.Option.{option_map}
use Rattle.tclv_io.specs.World.{World}
use Rattle.tclv_model.specs.declared.data_commands.CmdFault.{CmdFault}
use Rattle.tclv_model.specs.Rows.{Answer, Gives, Refuses}
use Rattle.tclv_value.specs.View.{View}
use Rattle.tclv_value.specs.Stacks.{top, under}
use Rattle.tclv_value.specs.declared.procedures.Param.{Param}
use Rattle.tclv_value.specs.Procedures.{Procedure}
use Rattle.tclv_reply.specs.Replies as replies
use Rattle.tclv_ctl.specs.Arguments as binding
use Rattle.tclv_ctl.specs.Arguments.{bound, with_default, unless_bound, IsReplaced, Replaces}
use Rattle.tclv_engine.specs.declared.endings.End.{End}
use Rattle.tclv_engine.specs.declared.endings.End.TheVariants as end
use Rattle.tclv_engine.specs.declared.machine.Machine.{Machine}
use Rattle.tclv_engine.specs.State.{Text, State, state_of}
use Rattle.tclv_engine.specs.Results.{bind, done}
use Rattle.tclv_engine.specs.Usages.{call_word}
use Rattle.tclv_engine.specs.Answers.{Outer, Keeps, KeepsStack, PushesWords, Runs, start, SameState}
use Rattle.tclv_engine.specs.DataAnswers.{of_answer}
use Rattle.tclv_engine.specs.DataSteps.{BecomesError}
use Rattle.tclv_engine.specs.Frames.{text_count}
use Rattle.tclv_engine.specs.Plans.{Wanted, Called}
use Rattle.tclv_engine.proofs.Binds.{runs_as}
use Rattle.tclv_engine.proofs.Leaves.{raise_runs, raises_as}
use Rattle.tclv_engine.proofs.StackLemmas.{top-stacked}
use Rattle.tclv_engine.proofs.DataLemmas.{call_is, arguments_are, message_below, code_on_top, under_reply}
use Rattle.tclv_control.specs.CallRows.{wanted_call}

-- ---- one text a parameter

-- texts that are bound are so many
abbrev AreSoMany : Option (List Text) → ℕ → Type 0
AreSoMany None n = Unit {0}
AreSoMany (Some texts) n = length texts ≡ n

one-more : (text : Text) (o : Option (List Text)) (n : ℕ) → AreSoMany o n → AreSoMany (option_map (λ ts. text ∷ ts) o) (suc n)
one-more text None n h = tt
one-more text (Some texts) n h = ap suc h

by-default : (default : Option Text) (o : Option (List Text)) (n : ℕ) → AreSoMany o n → AreSoMany (with_default default o) (suc n)
by-default None o n h = tt
by-default (Some text) o n h = one-more text o n h

next : (n m : ℕ) → suc (n + m) ≡ suc n + m
next n m = omega arith

so-many : (ps : List Param) (rest : Bool) (words : List Text) → AreSoMany (bound ps rest words) (length ps + (if rest then 1 else 0))
so-many [] true words = refl
so-many [] false [] = refl
so-many [] false (word ∷ words) = tt
so-many (p ∷ ps) rest (word ∷ words) =
    subst (AreSoMany (bound (p ∷ ps) rest (word ∷ words))) (next (length ps) (if rest then 1 else 0)) (one-more word (bound ps rest words) _ (so-many ps rest words))
so-many (p ∷ ps) rest [] = subst (AreSoMany (bound (p ∷ ps) rest [])) (next (length ps) (if rest then 1 else 0)) (by-default p.default (bound ps rest []) _ (so-many ps rest []))

-- and so of an answer
abbrev GivesSoMany : Answer (List Text) → ℕ → Type 0
GivesSoMany (Gives texts) n = length texts ≡ n
GivesSoMany (Refuses kind message code) n = Unit {0}

unless-many : (call usage : Text) (o : Option (List Text)) (n : ℕ) → AreSoMany o n → GivesSoMany (unless_bound call usage o) n
unless-many call usage None n h = tt
unless-many call usage (Some texts) n h = h

given-count : (heads : List Text) (d : Procedure) (words texts : List Text) → binding.arguments heads d words ≡ Gives texts → length texts ≡ text_count d
given-count heads d words texts e = subst (λ a. GivesSoMany a (text_count d)) e (unless-many _ _ (bound d.params d.rest words) (text_count d) (so-many d.params d.rest words))

-- ---- what the call leaves

module _ (row : Answer (List Text)) (k : ℕ) (before after : View) (r : Result (Unit {0}) CmdFault) (h : Replaces row k before after r) where
  pub replaced : r ≡ Ok tt → IsReplaced row k before.stack after.stack
  replaced e = let P : Result (Unit {0}) CmdFault → Type 0 = λ x. OnOk x (IsReplaced row k before.stack after.stack) in subst P e h.gives

  pub declined : (kind : CmdFault) → r ≡ Err kind → replies.IsRefused row kind k before after
  declined kind e = let P : Result (Unit {0}) CmdFault → Type 0 = λ x. IfErr x (λ x. replies.IsRefused row x k before after) in subst P e h.refuses

module _ (heads : List Text) (d : Procedure) (words : List Text) (k : ℕ) (old new : List Text) (h : IsReplaced (binding.arguments heads d words) k old new) where
  many : length h.texts ≡ text_count d
  many = given-count heads d words h.texts h.given

  pub texts_on_top : h.texts ≡ top (text_count d) new
  texts_on_top = sym (top-stacked (under k old) h.texts new (text_count d) h.stack (omega (arith, many, ap length h.stack, length-append (under k old) h.texts)))

  pub texts_inside : text_count d ≤ length new
  texts_inside = omega (arith, many, ap length h.stack, length-append (under k old) h.texts)

  pub keeps_below : Keeps (under k old) new
  keeps_below = record { kept = ap (take (length (under k old))) h.stack ∙ take-append_seam (under k old) h.texts; some = omega (arith, ap length h.stack, length-append (under k old) h.texts) }

-- ---- the row

one_head : (n : ℕ) (stack : List Text) → n + 1 ≤ length stack → top 1 (under n stack) ≡ replies.call_word n stack ∷ []
one_head n stack h =
    let len : length (under n stack) ≡ length stack - n = omega (arith, length-take (length stack - n) stack) in
    let at : length (under n stack) - 1 ≡ length stack - n - 1 = omega (arith, len) in
    drop_more (under n stack) (length (under n stack) - 1) [] (omega (arith, len, h))
    ∙ ap (λ t. t ∷ drop (length (under n stack) - 1 + 1) (under n stack)) (get_or-take (length stack - n) stack (length (under n stack) - 1) [] (omega (arith, at, h)) ∙ ap (λ k. get_or stack k []) at)
    ∙ ap (λ l. replies.call_word n stack ∷ l) (drop_all (length (under n stack) - 1 + 1) (under n stack) (omega (arith, len)))

pub call_row : {W K : Type 0} → (d : Procedure) (behind : K) (stack : List Text) (n : ℕ) (st : State W) → 0 < n → n ≤ length stack →
    bind (of_answer (binding.arguments (top 1 (under (n - 1) stack)) d (top (n - 1) stack)) st) (λ texts s1. done (Called d texts behind) s1) ≡ wanted_call d behind (top n stack) st
call_row d behind stack n st some l =
    ap (λ heads. bind (of_answer (binding.arguments heads d (top (n - 1) stack)) st) (λ texts s1. done (Called d texts behind) s1)) (one_head (n - 1) stack (omega (arith, some, l)) ∙ ap (λ w. w ∷ []) (call_is stack n some l))
    ∙ ap (λ ws. bind (of_answer (binding.arguments (call_word (top n stack) ∷ []) d ws) st) (λ texts s1. done (Called d texts behind) s1)) (arguments_are stack n some l)

-- ---- what is wanted

pub given_row : {W K : Type 0} → (row : Answer (List Text)) (texts : List Text) (d : Procedure) (behind : K) (st : State W) → row ≡ Gives texts →
    done (Called d texts behind) st ≡ bind (of_answer row st) (λ ts s1. done (Called d ts behind) s1)
unfolding bind
given_row row texts d behind st e = sym (ap (λ a. bind (of_answer a st) (λ ts s1. done (Called d ts behind) s1)) e)

pub refused_runs : {W K T : Type 0} {shows : Wanted K → T → List Text → Type 0} (row : Answer (List Text)) (k : ℕ) (before after : View) (d : Procedure) (behind : K) (kind : CmdFault) (e : End) (old new : Machine W) (w : World) (here : Outer) →
    here.told ≡ Some w → SameState old new → replies.Declines row kind k before after → BecomesError after.stack e new.values.store.stack →
    Runs {T = T} (bind (of_answer row (state_of old w)) (λ ts s1. done (Called d ts behind) s1)) shows (start old w here.torn) (Err e) new here
unfolding bind
refused_runs {T = T} {shows = shows} row k before after d behind kind e old new w here told same x b =
    runs_as (ap (λ a. bind (of_answer a (state_of old w)) (λ ts s1. done (Called d ts behind) s1)) (sym x.refused))
    (raise_runs {T = T} {shows = shows} old told same
    (raises_as _ _ _ _ new.values.store.stack e (message_below (under k before.stack) after.stack x.message x.code x.stack) (code_on_top (under k before.stack) after.stack x.message x.code x.stack) b.0))

-- An error over texts is one over them where further texts may be pushed.
pub error_pushes : (base now : List Text) (e : End) → KeepsStack {T = Unit {0}} base (Err e) now → PushesWords {T = Unit {0}} base (Err e) now
error_pushes base now (end.Left l) h = h
error_pushes base now end.Budget h = tt
error_pushes base now (end.Exit n) h = tt
error_pushes base now end.Device h = tt
error_pushes base now end.Memory h = tt

-- What a refusal leaves is an error over the words below those of the call.
pub refusal_over : (row : Answer (List Text)) (k : ℕ) (before after : View) (kind : CmdFault) (e : End) (now : List Text) → replies.Declines row kind k before after → BecomesError after.stack e now →
    PushesWords {T = Unit {0}} (under k before.stack) (Err e) now
refusal_over row k before after kind e now x b =
    error_pushes (under k before.stack) now e
    (subst (λ base. KeepsStack {T = Unit {0}} base (Err e) now) (under_reply (under k before.stack) after.stack x.message x.code x.stack) b.1)
