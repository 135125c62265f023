-- The code points of the made texts, as texts are made.
use Rattle.std.proofs.Common.{◌≡◌, ℕ, ◌+◌, ◌≤◌, Some, refl, ap, arith, min}
use Rattle.tclv_heap.specs.declared.ids.Object.{Object}
use Rattle.tclv_heap.specs.Graph.{Graph, at, stuck, Updates}
use Rattle.tclv_heap.specs.Counters.{text_size, texts_size, Writes}
use Rattle.tclv_heap.proofs.SumLemmas.{sum_updates}

module _ {F : Type 0} where
  -- no text was made
  pub Writes_none : (g : Graph F) (n : ℕ) → n ≤ stuck → Writes g g n n
  Writes_none g n small = record { more = 0; texts = omega arith; counter = omega arith }

  -- one text was made
  pub Writes_one : (g new : Graph F) (o : ℕ) (m : Object F) (before after size : ℕ) → text_size (at g o) ≡ 0 → Updates g new o (Some m) → text_size (Some m) ≡ size → after ≡ min (before + size) stuck → Writes g new before after
  unfolding texts_size
  Writes_one g new o m before after size none u is count = record {
    more = size;
    texts = omega (arith, sum_updates text_size refl g new o u.others, ap text_size u.changed, none, is);
    counter = count;
  }

  -- one after another
  pub Writes_then : (a b c : Graph F) (x y z : ℕ) → Writes a b x y → Writes b c y z → Writes a c x z
  Writes_then a b c x y z first second = record {
    more = first.more + second.more;
    texts = omega (arith, first.texts, second.texts);
    counter = omega (arith, first.counter, second.counter);
  }
