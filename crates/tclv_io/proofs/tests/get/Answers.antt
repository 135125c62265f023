use Rattle.std.proofs.Common.{◌≤◌, refl, arith}
use Rattle.tclv_io.specs.World.{Opened, read_on}
use Rattle.tclv_io.specs.declared.outside.Mode.TheVariants.{Read}
use Rattle.tclv_io.proofs.NumberLemmas.{other}
use Rattle.tclv_io.proofs.OpenLemmas.{opened, read_open, may_read, may_close}
use Rattle.tclv_io.proofs.tests.get.Goals as goal

pub read-requires : goal.read-requires
read-requires g c =
    let o : Opened = record { name = c.args.name.now; mode = Read; taken = 0 } in
    may_read (g.O.Outside.told c.open.new.self) c.in_ok-file.file o
    (opened (g.O.Outside.told c.args.out.now) _ c.args.name.now Read c.in_ok-file.file c.in_ok-file.ensures.world)
    refl

pub close-requires-clause-is_open : goal.close-requires-clause-is_open
close-requires-clause-is_open g c =
    let o : Opened = record { name = c.args.name.now; mode = Read; taken = 0 } in
    let on = opened (g.O.Outside.told c.args.out.now) (g.O.Outside.told c.open.new.self) c.args.name.now Read c.in_ok-file.file c.in_ok-file.ensures.world in
    let high : 3 ≤ c.in_ok-file.file = c.in_ok-file.ensures.number in
    may_close (g.O.Outside.told c.read.new.self) c.in_ok-file.file (read_on c.in_ok-count.count o)
    (read_open (g.O.Outside.told c.open.new.self) _ c.in_ok-file.file c.in_ok-count.count o (other c.in_ok-file.file 0 (λ e. omega arith)) on c.in_ok-count.ensures.world)
