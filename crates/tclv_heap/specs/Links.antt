-- The table of the tests: a form is an optional part, and its text is `x`.
use Rattle.std.specs.Prelude.{◌≡◌, ℕ, true, [], ◌∷◌, Option, refl}
use Rattle.std.specs.Option.{option_map_or}
use Rattle.tclv_heap.specs.Table.{Table}

abbrev pub links_table : Table (Option ℕ)
links_table = record {
  parts = λ f. option_map_or (λ p. p ∷ []) f [];
  Spells = λ f. Unit {0};
  spelled = λ f ts. 120 ∷ [];
  counts = λ f. true;
  Fits = λ s f ts. s ≡ 120 ∷ [];
  fits_spelled = λ f ts spells. refl;
}
