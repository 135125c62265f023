-- The run of a script file that was read.
use Rattle.std.proofs.Common.{◌≡◌, ℕ, ◌≤◌, ◌^◌, List, [], length, ◌∙◌, ap, sym, refl, cond, arith, Some, None, Bool, true, false}
use Rattle.std.specs.Prelude.{Option, nat_lt}
use Rattle.std.proofs.lemmas.Bool.Decides.{nat_tests}
use Rattle.std.specs.Str.{is_utf8}
use Rattle.std.specs.FinMap as finite
use Rattle.tclv_io.specs.World.{World}
use Rattle.tclv_io.specs.Events.{shown}
use Rattle.tclv_model.specs.declared.reports.Report.{Report}
use Rattle.tclv_engine.specs.State.{Text}
use Rattle.tclv_shell.specs.declared.script_files.Loaded.TheVariants as loaded
use Rattle.tclv_shell.specs.Words.{Invocation}
use Rattle.tclv_shell.specs.Halts.{Seen, SeesSame}
use Rattle.tclv_shell.specs.Loaded.{Found}
use Rattle.tclv_shell.specs.Run.{Meaning, Follows, meaning_of_file, meaning_of_script}
use Rattle.tclv_shell.proofs.Joins.{goes_on_follows}

small : (n : ℕ) → n ≤ 2 ^ 30 → nat_lt (2 ^ 30) n ≡ false
small n h = grind (arith, nat_tests)

chosen : (p q : Bool) (a b c : Meaning) → p ≡ false → q ≡ true → cond p a (cond q b c) ≡ b
chosen true q a b c e f = cc
chosen false true a b c e f = refl
chosen false false a b c e f = cc

text_found : (i : Invocation) (text : Text) (x : Option (List ℕ)) (w : World) → Found x (loaded.Text text) → meaning_of_file i x w ≡ meaning_of_script i text w
text_found i text None w h = absurd h
text_found i text (Some bytes) w h =
    chosen (nat_lt (2 ^ 30) (length bytes)) (is_utf8 bytes) _ _ _ (small (length bytes) h.0) h.1
    ∙ ap (λ t. meaning_of_script i t w) (sym h.2)

-- the file was read, which shows nowhere, and then its script ran
pub text_follows : (i : Invocation) (text : Text) (told now : Option World) (b m a : Seen) (report : Report) → b.shown ≡ shown told → ((w : World) → told ≡ Some w → Found (finite.get w.out.files i.file) (loaded.Text text)) → now ≡ told → SeesSame b m → m.faults ≡ b.faults → Follows (λ w. meaning_of_script i text w) now m a report → Follows (λ w. meaning_of_file i (finite.get w.out.files i.file) w) told b a report
text_follows i text told now b m a report is_told found same sees calm follows =
    goes_on_follows (λ w. meaning_of_file i (finite.get w.out.files i.file) w) (λ w. meaning_of_script i text w) told now b m a 0 report report
    (λ w e.
    let is = text_found i text (finite.get w.out.files i.file) w (found w e) in
    record {
      events = [];
      world = w;
      told = same ∙ e;
      out = refl;
      torn = sees.torn w.out (is_told ∙ ap shown e) ∙ omega arith;
      count = refl;
      joined = ap (λ m. m.events) is;
      end = ap (λ m. m.end) is;
      status = ap (λ m. m.status) is;
    })
    calm follows refl refl (omega arith)
