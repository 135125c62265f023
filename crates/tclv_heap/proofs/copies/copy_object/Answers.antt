use Rattle.std.proofs.Common.{refl}
use Rattle.tclv_heap.specs.Stands.Copies.{spelt, unspelt}
use Rattle.tclv_heap.proofs.copies.copy_object.Goals as goal

pub returns-then-spells : goal.returns-then-spells
returns-then-spells g c = spelt c.in-Some.is refl c.in_ok-copy.ensures (c.spells.ensures.0 c.if-spells.true) refl

pub returns : goal.returns
returns g c = unspelt c.in-Some.is refl c.in_ok-copy.ensures (λ s. let t = c.spells.ensures.1 s in let f = c.if-spells.false in cc) c.in_ok-text-2.ensures
