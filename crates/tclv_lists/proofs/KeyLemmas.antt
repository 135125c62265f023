-- Laws of the order of keys.
use Rattle.std.proofs.Common.{◌≡◌, refl}
use Rattle.std.specs.Cmp.{IsTotalOrder, IsStrictWeakOrder}
use Rattle.std.specs.declared.cmp.Ordering.TheVariants.{Less, Equal}
use Rattle.std.specs.Ordering.{ordering_reverse}
use Rattle.std.proofs.lemmas.Cmp.{int_cmp_total, nat_list_cmp_total}
use Rattle.std.proofs.lemmas.List.Sorted.{ranks_by, IsStrictWeakOrder-flip}
use Rattle.tclv_lists.specs.declared.sorting.Direction.{Direction}
use Rattle.tclv_lists.specs.declared.sorting.Direction.TheVariants.{Increasing, Decreasing}
use Rattle.tclv_lists.specs.declared.sorting.Key.{Key}
use Rattle.tclv_lists.specs.declared.sorting.Key.TheVariants.{Number, Word}
use Rattle.tclv_lists.specs.Sorting.{key_cmp, entry_before}

reversed : (x y : Key) → key_cmp x y ≡ ordering_reverse (key_cmp y x)
reversed (Number a) (Number b) = int_cmp_total.antisymm a b
reversed (Number a) (Word b) = refl
reversed (Word a) (Number b) = refl
reversed (Word a) (Word b) = nat_list_cmp_total.antisymm a b

chained : (x y z : Key) → key_cmp x y ≡ Less → key_cmp y z ≡ Less → key_cmp x z ≡ Less
chained (Number a) (Number b) (Number c) p q = int_cmp_total.trans a b c p q
chained (Number a) (Number b) (Word c) p q = refl
chained (Number a) (Word b) (Number c) p q = absurd (cc)
chained (Number a) (Word b) (Word c) p q = refl
chained (Word a) (Number b) z p q = absurd (cc)
chained (Word a) (Word b) (Number c) p q = absurd (cc)
chained (Word a) (Word b) (Word c) p q = nat_list_cmp_total.trans a b c p q

alike : (x y z : Key) → key_cmp x y ≡ Equal → key_cmp x z ≡ key_cmp y z
alike (Number a) (Number b) (Number c) p = int_cmp_total.congr a b c p
alike (Number a) (Number b) (Word c) p = refl
alike (Number a) (Word b) z p = absurd (cc)
alike (Word a) (Number b) z p = absurd (cc)
alike (Word a) (Word b) (Number c) p = refl
alike (Word a) (Word b) (Word c) p = nat_list_cmp_total.congr a b c p

key_total : IsTotalOrder key_cmp
key_total = record { antisymm = reversed; trans = chained; congr = alike }

pub entry_order : (direction : Direction) → IsStrictWeakOrder (entry_before direction)
entry_order Increasing = ranks_by key_total (λ e. e.key)
entry_order Decreasing = IsStrictWeakOrder-flip _ (ranks_by key_total (λ e. e.key))
