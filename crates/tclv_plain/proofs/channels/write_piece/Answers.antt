use Rattle.std.proofs.Common.{rules, refl, ◌≡◌, ◌<◌, length, arith}
use Rattle.std.proofs.lemmas.Bool.Decides.{nat_tests}
use Rattle.tclv_engine.proofs.Leaves.{no_memory}
use Rattle.tclv_plain.proofs.ChannelLemmas.{writes_none, writes_all, writes_stopped, stop_caused, stop_has_no_code}
use Rattle.tclv_plain.proofs.channels.write_piece.Goals as goal

pub returns-then-is_empty-clause-answer : goal.returns-then-is_empty-clause-answer
returns-then-is_empty-clause-answer g c m w told =
    let none : length c.args.piece.now ≡ 0 = grind (arith, nat_tests, c.is_empty.ensures, c.if-is_empty.true) in
    writes_none c.args.channel (record m { writes = c.args.writes.now }) c.args.piece.now _ (g.O.Outside.torn c.args.out.now) w told none

pub returns-in_default-clause-answer : goal.returns-in_default-clause-answer
returns-in_default-clause-answer g c m w told = no_memory told refl

pub returns-in-Ok-clause-answer : goal.returns-in-Ok-clause-answer
returns-in-Ok-clause-answer g c m w told =
    let some : 0 < length c.args.piece.now = grind (arith, nat_tests, c.is_empty.ensures, c.if-is_empty.false) in
    writes_all c.number_of.result c.args.channel (record m { writes = c.args.writes.now }) _ c.args.piece.now (g.O.Outside.told c.args.out.now) _ (g.O.Outside.torn c.args.out.now) _ w
    c.number_of.ensures some (search rules) told c.in-Ok.ensures.world (c.in-Ok.ensures.torn w told)

pub returns-in-Err-clause-answer : goal.returns-in-Err-clause-answer
returns-in-Err-clause-answer g c m w told =
    let some : 0 < length c.args.piece.now = grind (arith, nat_tests, c.is_empty.ensures, c.if-is_empty.false) in
    writes_stopped c.number_of.result c.args.channel (record m { writes = c.args.writes.now }) c.in-Err.fault c.stop_of.result c.args.piece.now (g.O.Outside.told c.args.out.now) _ (g.O.Outside.torn c.args.out.now) _ w
    c.number_of.ensures some c.in-Err.ensures.bound c.stop_of.ensures told c.in-Err.ensures.world (c.in-Err.ensures.torn w told)

pub returns-in-Err-clause-cause : goal.returns-in-Err-clause-cause
returns-in-Err-clause-cause g c = stop_caused c.in-Err.fault c.stop_of.result _ _ c.stop_of.ensures c.in-Err.ensures.cause

pub returns-in-Err-clause-no_code : goal.returns-in-Err-clause-no_code
returns-in-Err-clause-no_code g c = stop_has_no_code c.in-Err.fault c.stop_of.result c.stop_of.ensures
