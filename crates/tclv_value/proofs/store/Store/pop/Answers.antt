use Rattle.std.proofs.Common.{◌≡◌, ◌-◌, take, length, refl, sym, ap, ◌∙◌, arith}
use Rattle.std.proofs.lemmas.List.{take_all, length-take-le}
use Rattle.tclv_value.specs.ListObjects.{KeepsCells}
use Rattle.tclv_value.proofs.ViewLemmas.{pop_more, pop_there, KeepsMade_trans}
use Rattle.tclv_value.proofs.store.Store.pop.Goals as goal

pub loop-gone-init : goal.loop-gone-init
unfolding KeepsCells
loop-gone-init c = record {
  stack = sym (take_all (length c.args.self.now.stack - 0) c.args.self.now.stack (omega arith));
  cells = refl;
  keeps = λ place old new. refl;
  objects = (refl, refl);
}

pub pop_one-requires : goal.pop_one-requires
pop_one-requires c =
    omega (
      arith,
      c.requires,
      c.loop-gone-test.true,
      ap length c.loop-gone.invariant.stack,
      length-take-le (length c.args.self.now.stack - c.loop-gone._gone) c.args.self.now.stack (omega arith),
    )

pub loop-gone-preserved : goal.loop-gone-preserved
unfolding KeepsCells
loop-gone-preserved c =
    let e = c.pop_one.ensures in
    record {
      stack = pop_more c.args.self.now.stack c.loop-gone.self.stack c.pop_one.new.self.stack c.loop-gone._gone c.loop-gone.invariant.stack (omega (arith, c.requires, c.loop-gone-test.true)) e.popped;
      cells = e.cells ∙ c.loop-gone.invariant.cells;
      keeps = KeepsMade_trans c.args.self.now c.loop-gone.self c.pop_one.new.self (pop_there c.loop-gone.self c.pop_one.new.self e.popped e.cells) c.loop-gone.invariant.keeps e.keeps;
      objects = (e.objects.0 ∙ c.loop-gone.invariant.objects.0, e.objects.1 ∙ c.loop-gone.invariant.objects.1);
    }

pub returns-clause-popped : goal.returns-clause-popped
returns-clause-popped c =
    let all : c.loop-gone._gone ≡ c.args.n = omega (arith, c.loop-gone.auto._gone-end, c.loop-gone-test.false) in
    c.loop-gone.invariant.stack ∙ ap (λ k. take (length c.args.self.now.stack - k) c.args.self.now.stack) all
