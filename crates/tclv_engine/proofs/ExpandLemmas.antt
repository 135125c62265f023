-- What is left of the stack where a list's elements take the place of its text.
use Rattle.std.proofs.Common.{◌≡◌, ◌-◌, List, ◌++◌, length, take, sym, ap, ◌∙◌, subst, arith, length-append, Result, Err}
use Rattle.std.proofs.Math.Seq.{take-append_seam}
use Rattle.tclv_value.specs.Stacks.{under}
use Rattle.tclv_engine.specs.declared.endings.End.{End}
use Rattle.tclv_engine.specs.declared.endings.End.TheVariants as end
use Rattle.tclv_engine.specs.State.{Text}
use Rattle.tclv_engine.specs.declared.machine.Machine.{Machine}
use Rattle.tclv_engine.specs.Results.{Res}
use Rattle.tclv_engine.specs.Answers.{Outer, Start, Runs, Keeps, KeepsStack, PushesWords, stacked}
use Rattle.tclv_engine.proofs.WordLemmas.{result_under}

refused : (S : Type 0) (base : List Text) (e : End) (now : List Text) → KeepsStack {T = S} base (Err e) now → PushesWords {T = Unit {0}} (under 1 base) (Err e) now
refused S base (end.Left l) now h = result_under {T = Unit {0}} 1 base (Err (end.Left l)) now h
refused S base end.Budget now h = tt
refused S base (end.Exit n) now h = tt
refused S base end.Device now h = tt
refused S base end.Memory now h = tt

-- the text was no list
pub refused_words : (S : Type 0) (base : List Text) (e : End) (r : Result (Unit {0}) End) (now : List Text) → r ≡ Err e → KeepsStack {T = S} base (Err e) now → PushesWords (under 1 base) r now
refused_words S base e r now is h = subst (λ x. PushesWords (under 1 base) x now) (sym is) (refused S base e now h)

-- the texts over a base are those that were pushed
pub keeps_pushed : (base more now : List Text) → now ≡ base ++ more → Keeps base now
keeps_pushed base more now e = record { kept = ap (take (length base)) e ∙ take-append_seam base more; some = omega (arith, ap length e, length-append base more) }

-- the elements stand where the text stood
pub in_place : (old mid now ts : List Text) → mid ≡ old → now ≡ take (length mid - 1) mid ++ ts → now ≡ under 1 old ++ ts
in_place old mid now ts e h = h ∙ ap (λ s. take (length s - 1) s ++ ts) e

-- ---- bases that are the same

pub stacked_on : {W : Type 0} → {m : Res W (List Text)} {s : Start} {r : Result (Unit {0}) End} {new : (Machine W)} {now : Outer} {base base' : List Text} → base ≡ base' →
    Runs m (stacked base) s r new now → Runs m (stacked base') s r new now
stacked_on {m} {s} {r} {new} {now} e h = subst (λ b. Runs m (stacked b) s r new now) e h

pub words_on : {base base' : List Text} (r : Result (Unit {0}) End) (now : List Text) → base ≡ base' → PushesWords base r now → PushesWords base' r now
words_on r now e h = subst (λ b. PushesWords b r now) e h
