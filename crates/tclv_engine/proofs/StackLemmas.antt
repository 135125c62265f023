-- The texts of a stack.
use Rattle.std.proofs.Common.{◌≡◌, ℕ, ◌-◌, ◌<◌, ◌≤◌, List, [], ◌∷◌, ◌++◌, length, take, drop, sym, ap, ◌∙◌, subst, arith, length-append, take-take, get_or}
use Rattle.std.proofs.lemmas.List.{take_all, take_at, at_drop_all, get_or-take, take-append-drop, drop-append-le}
use Rattle.std.proofs.Math.Seq.{take-append_seam, drop-append_seam}
use Rattle.tclv_value.specs.Stacks.{top}
use Rattle.std.proofs.lemmas.Grind.{common_steps}
use Rattle.tclv_engine.specs.State.{Text}
use Rattle.std.specs.Prelude.{Result, Ok, Err}
use Rattle.tclv_engine.specs.declared.endings.End.{End}
use Rattle.tclv_engine.specs.declared.endings.End.TheVariants as end
use Rattle.tclv_engine.specs.Answers.{last_of, Over, Keeps, Pushes, PushesOne, KeepsStack}

pub last-push : (stack : List Text) (text : Text) → last_of (stack ++ text ∷ []) ≡ text
last-push stack text = grind (arith, common_steps)

pub under-push : (stack : List Text) (text : Text) → take (length (stack ++ text ∷ []) - 1) (stack ++ text ∷ []) ≡ stack
under-push stack text = take_at stack (text ∷ []) (length (stack ++ text ∷ []) - 1) (omega (arith, length-append stack (text ∷ [])))

pub last-pushed : (stack now : List Text) (text : Text) → now ≡ stack ++ text ∷ [] → last_of now ≡ text
last-pushed stack now text e = ap last_of e ∙ last-push stack text

-- the top text of a stack, as a place of a store says it
pub top-is : (stack : List Text) → 0 < length stack → take (length stack - 1) stack ++ last_of stack ∷ [] ≡ stack
top-is stack h = grind (arith, common_steps)

over-push : (base : List Text) (text : Text) → Over 1 base (base ++ text ∷ [])
over-push base text = record { kept = take-append_seam base (text ∷ []); count_is = length-append base (text ∷ []) }

pub pushes_one : {T : Type 0} (text : Text) (base : List Text) (r : Result T End) (now : List Text) → Pushes text base r now → PushesOne base r now
pushes_one text base (Ok t) now h = subst (λ s. Over 1 base s) (sym h) (over-push base text)
pushes_one text base (Err (end.Left l)) now h = absurd h
pushes_one text base (Err end.Budget) now h = tt
pushes_one text base (Err (end.Exit n)) now h = tt
pushes_one text base (Err end.Device) now h = tt
pushes_one text base (Err end.Memory) now h = tt

-- the top text is taken away and pushed again
pub repushed : {T : Type 0} (text : Text) (old mid : List Text) (r : Result T End) (now : List Text) → 0 < length old → mid ≡ take (length old - 1) old → text ≡ last_of old → Pushes text mid r now → KeepsStack old r now
repushed text old mid (Ok t) now some m e h = h ∙ ap (λ x. mid ++ x ∷ []) e ∙ ap (λ s. s ++ last_of old ∷ []) m ∙ top-is old some
repushed text old mid (Err (end.Left l)) now some m e h = absurd h
repushed text old mid (Err end.Budget) now some m e h = tt
repushed text old mid (Err (end.Exit n)) now some m e h = tt
repushed text old mid (Err end.Device) now some m e h = tt
repushed text old mid (Err end.Memory) now some m e h = tt

-- the texts over a base are those on top
pub top-stacked : (base texts stack : List Text) (n : ℕ) → stack ≡ base ++ texts → n ≡ length stack - length base → top n stack ≡ texts
top-stacked base texts stack n e h =
    ap (λ s. top n s) e
    ∙ ap (λ k. drop k (base ++ texts)) (omega (arith, h, ap length e, length-append base texts))
    ∙ drop-append_seam base texts

-- the stack that `settle` leaves shows what was on top
pub settled : (mid new : List Text) (height : ℕ) → new ≡ take height mid ++ last_of mid ∷ [] → last_of new ≡ last_of mid
settled mid new height e = last-pushed (take height mid) new (last_of mid) e

pub over_push : (base now : List Text) (text : Text) → now ≡ base ++ text ∷ [] → Over 1 base now
over_push base now text h = subst (λ s. Over 1 base s) (sym h) (over-push base text)

-- the one text over a base goes
pub over-popped : (base stack : List Text) → Over 1 base stack → take (length stack - 1) stack ≡ base
over-popped base stack h = ap (λ n. take n stack) (omega (arith, h.count_is)) ∙ h.kept

-- the one text over a base is the top text
pub over-one : (base stack : List Text) (text : Text) → Over 1 base stack → last_of stack ≡ text → stack ≡ base ++ text ∷ []
over-one base stack text h e = sym (top-is stack (omega (arith, h.count_is))) ∙ ap (λ b. b ++ last_of stack ∷ []) (over-popped base stack h) ∙ ap (λ t. base ++ t ∷ []) e

pub keeps_all : (base : List Text) → Keeps base base
keeps_all base = record { kept = take_all (length base) base (omega arith); some = omega arith }

-- what is over a base that is over another
pub take-under : (base mid stack : List Text) → length base ≤ length mid → take (length mid) stack ≡ mid → take (length base) mid ≡ base → take (length base) stack ≡ base
take-under base mid stack h e f =
    sym (take-take (length base) (length mid) stack h) ∙ ap (take (length base)) e ∙ f

pub keeps_on : (base mid stack : List Text) → Keeps base mid → Keeps mid stack → Keeps base stack
keeps_on base mid stack h k = record { kept = take-under base mid stack h.some k.kept h.kept; some = omega (arith, h.some, k.some) }

-- texts over a base, and more of them
pub drop-more : (base mid stack more : List Text) → length base ≤ length mid → stack ≡ mid ++ more → drop (length base) stack ≡ drop (length base) mid ++ more
drop-more base mid stack more h e = ap (drop (length base)) e ∙ drop-append-le (length base) mid more h

pub drop-base : (base : List Text) → drop (length base) base ≡ []
drop-base base = at_drop_all (λ xs. xs) base (length base) (omega arith)

pub keeps-split : (base stack : List Text) → Keeps base stack → stack ≡ base ++ drop (length base) stack
keeps-split base stack h = sym (ap (λ b. b ++ drop (length base) stack) (sym h.kept) ∙ take-append-drop (length base) stack)

-- a text below one that was pushed
pub text_below : (base now : List Text) (i : ℕ) → Over 1 base now → i < length base → get_or now i [] ≡ get_or base i []
text_below base now i h l = sym (get_or-take (length base) now i [] l) ∙ ap (λ s. get_or s i []) h.kept
