use Rattle.std.proofs.Common.{arith, subst, refl}
use Rattle.std.specs.Str.{IsUtf8, is_utf8}
use Rattle.std.proofs.lemmas.Str.{is_utf8-from_IsUtf8}
use Rattle.tclv_shell.proofs.Reading.{no_utf8}
use Rattle.tclv_shell.proofs.script_files.judged.Goals as goal

pub new-requires : goal.new-requires
new-requires c = record { utf8 = subst IsUtf8 c.deref.ensures.value c.in-Ok.ensures.cases.1 }

pub returns-in-Ok : goal.returns-in-Ok
returns-in-Ok c =
    let utf8 = subst IsUtf8 c.deref.ensures.value c.in-Ok.ensures.cases.1 in
    (omega (arith, c.if-len-gt-MAX_BYTES.false, c.len.ensures), is_utf8-from_IsUtf8 c.args.bytes.items utf8, c.new.ensures)

pub returns-in-Err : goal.returns-in-Err
returns-in-Err c =
    let none = subst (λ b. ¬ (IsUtf8 b)) c.deref.ensures.value c.in-Err.ensures.cases.0 in
    (omega (arith, c.if-len-gt-MAX_BYTES.false, c.len.ensures), no_utf8 c.args.bytes.items none (is_utf8 c.args.bytes.items) refl)
