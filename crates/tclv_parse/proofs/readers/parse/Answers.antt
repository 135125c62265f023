use Rattle.std.proofs.Common.{◌≡◌, ◌∙◌, sym, length, ap, ap₂, false, Ok, Err, Result, IfOk}
use Rattle.std.specs.Str.{chars, encode_utf8_all}
use Rattle.std.proofs.lemmas.Str.{encodes-chars}
use Rattle.tclv_text.specs.Cursors.{size}
use Rattle.tclv_parse.specs.declared.tree.Script.{Script}
use Rattle.tclv_parse.specs.Runs.{Text}
use Rattle.tclv_parse.specs.Grammar.{script, script_of, fault_of, course, commands, deeper_by, max_depth}
use Rattle.tclv_parse.specs.Readers.{Run}
use Rattle.tclv_parse.specs.Readers as spec
use Rattle.tclv_parse.proofs.ReadLaws.{runs-whole}
use Rattle.tclv_parse.proofs.readers.parse.Goals as goal

-- the commands that a run is
abbrev of_run : Run → Script
of_run r = script_of r.0 (fault_of r.1)

if_runs : {E : Type 0} (out : Result Script E) (r : Run) (new : Text) (s : Script) → IfOk out (λ x. spec.Runs r x new) → of_run r ≡ s → IfOk out (λ x. x ≡ s)
if_runs (Ok x) r new s h e = runs-whole r x new h ∙ e
if_runs (Err x) r new s h e = tt

pub returns : goal.returns
unfolding course size
returns c =
    let t = chars c.args.text.now in
    let whole : c.new.result.whole ≡ length (encode_utf8_all t) = c.new.ensures.whole ∙ ap length (sym (encodes-chars c.args.text.now c.requires.utf8)) in
    let deeper : spec.deeper c.new.result ≡ deeper_by (length (encode_utf8_all t)) max_depth = c.new.ensures.deeper ∙ ap (λ n. deeper_by n max_depth) (ap length (sym (encodes-chars c.args.text.now c.requires.utf8))) in
    if_runs c.commands.result (spec.commands c.new.result c.new-cursor.result) c.commands.new.cursor (commands t) c.commands.ensures
    (ap (λ u. of_run (spec.commands c.new.result u)) c.new-cursor.ensures.place
    ∙ ap (λ i. of_run (script c.new.result.whole (spec.deeper c.new.result) i t).1) c.new.ensures.inner
    ∙ ap₂ (λ n d. of_run (script n d false t).1) whole deeper)
