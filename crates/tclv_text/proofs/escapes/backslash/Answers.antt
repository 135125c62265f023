use Rattle.std.proofs.Common.{subst, sym, arith}
use Rattle.std.proofs.lemmas.List.{take_rest}
use Rattle.std.specs.Str.{chars}
use Rattle.tclv_text.specs.Texts.{IsText}
use Rattle.tclv_text.proofs.EscapeLemmas.{IsEscape, chars_tail, behind_backslash}
use Rattle.tclv_text.proofs.escapes.backslash.Goals as goal

pub escape_of-c-requires : goal.escape_of-c-requires
escape_of-c-requires c = subst IsText (sym (take_rest c.args.text.now 1)) (chars_tail c.args.text.now c.requires.utf8 c.requires.some c.requires.begins).0

pub returns : goal.returns
returns c =
    let e = c.escape_of-c.result in
    let h = subst (λ xs. IsEscape xs (chars xs) e) (take_rest c.args.text.now 1) (record { char = c.escape_of-c.ensures.char; taken = c.escape_of-c.ensures.taken }) in
    let k = behind_backslash c.args.text.now e c.requires.utf8 c.requires.some c.requires.begins h in
    record { char = k.0; taken = k.1; some = omega arith }
