-- What scripts see of the world.
use Rattle.std.specs.Prelude.{ℕ, List}
use Rattle.tclv_io.specs.World.{Out, World}

-- Standard input that is left, and what others see too: the files, and the bytes written on both outputs. Which numbers are open on the
-- outside, and how far each file is read, no script sees.
pub record Surroundings : Type 0 where
  pub input : List ℕ
  pub out : Out

abbrev pub surroundings_of : World → Surroundings
surroundings_of w = record { input = w.input; out = w.out }
