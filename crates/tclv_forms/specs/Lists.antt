-- What contracts see of a list of objects.
use Rattle.std.specs.Prelude.{ℕ, ◌-◌, List, ◌++◌, take, drop, refl}
use Rattle.std.specs.Coded.{Coded, code_by, coded×, coded_ℕ, coded_list}

-- its objects, and how many more it takes without memory
pub record Items : Type 0 where
  pub ids : List ℕ
  pub room : ℕ

-- the list where the objects from one place up to another give way to these
abbrev pub spliced : List ℕ → ℕ → ℕ → List ℕ → List ℕ
spliced ids from to with_these = take from ids ++ with_these ++ drop to ids

-- the objects from one place up to another
abbrev pub between : List ℕ → ℕ → ℕ → List ℕ
between ids from to = take (to - from) (drop from ids)

-- a list is stored as the pair of its fields
abbrev pub items_code : Coded Items
items_code = code_by (List ℕ × ℕ) (coded× (coded_list coded_ℕ) coded_ℕ) (λ i. (i.ids, i.room)) (λ p. record { ids = p.0; room = p.1 }) (λ _. refl)
