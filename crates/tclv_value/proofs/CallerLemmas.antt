-- Maps in which an entry was put.
use Rattle.std.proofs.Common.{◌≡◌, ◌≢◌, ℕ, List, cond, Some, IsSome, is_some, sym, ap, ◌∙◌, arith, nat_eq, true}
use Rattle.std.specs.Ordering.{nat_cmp}
use Rattle.std.specs.Cmp.{nat_cmp_total, unsigned_ties}
use Rattle.std.specs.FinMap.{FinMap, get, insert, get-insert}
use Rattle.tclv_value.proofs.CellLemmas.{not_same}

is_itself : (k : ℕ) → nat_eq k k ≡ true
is_itself k = grind arith

get_put : {X : Type 0} (m : FinMap nat_cmp X) (k : ℕ) (x : X) → get (insert m k x) k ≡ Some x
get_put m k x = get-insert nat_cmp_total m k x k ∙ ap (λ b. cond b (Some x) (get m k)) (sym (unsigned_ties k k) ∙ is_itself k)

pub get_other : {X : Type 0} (m : FinMap nat_cmp X) (k q : ℕ) (x : X) → q ≢ k → get (insert m k x) q ≡ get m q
get_other m k q x ne = get-insert nat_cmp_total m k x q ∙ ap (λ b. cond b (Some x) (get m q)) (sym (unsigned_ties q k) ∙ not_same q k ne)

-- a variable that was written is there
pub put_there : (old new : FinMap nat_cmp (List ℕ)) (k : ℕ) (x : List ℕ) → new ≡ insert old k x → IsSome (get new k)
put_there old new k x put = ap (λ m. is_some (get m k)) put ∙ ap is_some (get_put old k x)
