use Rattle.std.proofs.Common.{sym, subst}
use Rattle.tclv_io.specs.World.{Opened}
use Rattle.tclv_io.proofs.OpenLemmas.{OpenOn, opened, still_open, may_write, may_close}
use Rattle.tclv_io.proofs.tests.put.Goals as goal

pub write-requires : goal.write-requires
write-requires g c =
    let o : Opened = record { name = c.args.name.now; mode = c.args.mode; taken = 0 } in
    may_write (g.O.Outside.told c.open.new.self) c.in_ok-file.file o
    (opened (g.O.Outside.told c.args.out.now) _ c.args.name.now c.args.mode c.in_ok-file.file c.in_ok-file.ensures.world)
    c.requires

pub flush-requires : goal.flush-requires
flush-requires g c =
    let o : Opened = record { name = c.args.name.now; mode = c.args.mode; taken = 0 } in
    let on = opened (g.O.Outside.told c.args.out.now) (g.O.Outside.told c.open.new.self) c.args.name.now c.args.mode c.in_ok-file.file c.in_ok-file.ensures.world in
    may_write (g.O.Outside.told c.write.new.self) c.in_ok-file.file o
    (still_open (g.O.Outside.told c.open.new.self) _ c.in_ok-file.file c.in_ok-file.file c.args.piece.now c.in_ok-write.field-0 o on c.in_ok-write.ensures.world)
    c.requires

pub close-requires-clause-is_open : goal.close-requires-clause-is_open
close-requires-clause-is_open g c =
    let o : Opened = record { name = c.args.name.now; mode = c.args.mode; taken = 0 } in
    let on = opened (g.O.Outside.told c.args.out.now) (g.O.Outside.told c.open.new.self) c.args.name.now c.args.mode c.in_ok-file.file c.in_ok-file.ensures.world in
    let after = still_open (g.O.Outside.told c.open.new.self) (g.O.Outside.told c.write.new.self) c.in_ok-file.file c.in_ok-file.file c.args.piece.now c.in_ok-write.field-0 o on c.in_ok-write.ensures.world in
    may_close (g.O.Outside.told c.flush.new.self) c.in_ok-file.file o
    (subst (λ told. OpenOn told c.in_ok-file.file o) (sym c.flush.ensures.world) after)
