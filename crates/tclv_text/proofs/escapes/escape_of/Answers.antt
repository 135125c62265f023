use Rattle.std.proofs.Common.{◌<◌, length, arith}
use Rattle.std.proofs.lemmas.Bool.Decides.{nat_tests}
use Rattle.tclv_text.proofs.EscapeLemmas.{is_escape_none, is_escape_ascii, is_escape_other}
use Rattle.tclv_text.proofs.escapes.escape_of.Goals as goal

pub returns-then-is_empty : goal.returns-then-is_empty
returns-then-is_empty c =
    let e = is_escape_none c.args.rest.now c.requires (grind (arith, nat_tests)) in
    record { char = e.char; taken = e.taken }

pub returns-then-rest-lt128 : goal.returns-then-rest-lt128
returns-then-rest-lt128 c =
    let some : 0 < length c.args.rest.now = grind (arith, nat_tests) in
    let e = is_escape_ascii c.args.rest.now c.ascii_escape.result c.requires some c.if-rest-lt128.true c.ascii_escape.ensures in
    record { char = e.char; taken = e.taken }

pub returns : goal.returns
returns c =
    let some : 0 < length c.args.rest.now = grind (arith, nat_tests) in
    let f = c.first_char.ensures in
    let e = is_escape_other c.args.rest.now c.first_char.result.0 c.first_char.result.1 c.requires c.if-rest-lt128.false some f.char f.taken in
    record { char = e.char; taken = e.taken }
