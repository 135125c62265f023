-- Ways down to an object that no part holds.
use Rattle.std.proofs.Common.{◌≡◌, ℕ, ◌<◌, ◌≤◌, inl, inr, None, length, refl, ap, subst, arith}
use Rattle.std.proofs.lemmas.Bool.{cases_lt}
use Rattle.std.proofs.lemmas.List.{get_or_past}
use Rattle.std.proofs.lemmas.List.Sums.{get_or-le-sum_by}
use Rattle.tclv_heap.specs.Graph.{at, holds, held, Leads}
use Rattle.tclv_heap.specs.Graph.Leads.{here, down}
use Rattle.tclv_value.specs.Forms.{parts_of}
use Rattle.tclv_value.proofs.ViewLemmas.{G}

pub holds_le_held : (g : G) (o p : ℕ) → holds parts_of p (at g o) ≤ held parts_of g p
unfolding held
holds_le_held g o p = elim (cases_lt o (length g)) [
  | inl within ↦ get_or-le-sum_by (holds parts_of p) g o None within
  | inr past ↦ omega (arith, ap (holds parts_of p) (get_or_past g o None past))
]

-- it is reached from itself alone
pub leads_to_free : (g : G) (p o : ℕ) → held parts_of g o ≡ 0 → Leads parts_of g p o → p ≡ o
leads_to_free g p o free here = refl
leads_to_free g p o free (down {p = q} h l) =
    let e : q ≡ o = leads_to_free g q o free l in
    let held_here : 0 < holds parts_of o (at g p) = subst (λ y. 0 < holds parts_of y (at g p)) e h in
    absurd (omega (arith, holds_le_held g p o))
