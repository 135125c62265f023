-- An open way of one index: the index names a place in the list of the place.
use Rattle.std.proofs.Common.{◌≡◌, ℕ, zero, suc, ◌-◌, ◌<◌, ◌≤◌, List, [], ◌∷◌, length, take, drop, get_or, Option, Some, None, IsSome, true≢false, Result, Ok, Err, refl, sym, ap, subst, ◌∙◌, arith}
use Rattle.std.specs.Prelude.{◌≢◌, IfErr}
use Rattle.std.proofs.lemmas.List.{length-map}
use Rattle.tclv_text.specs.declared.counters.Stats.{Stats}
use Rattle.tclv_text.specs.Indices.{index}
use Rattle.tclv_value.specs.ListObjects.{IsListAt, IsTold}
use Rattle.tclv_value.specs.Paths.{PathFlaw, place_or, RefusesPath}
use Rattle.tclv_value.specs.Places.{view_of, text_of}
use Rattle.tclv_value.specs.SetObjects.{IsOpenAt}
use Rattle.tclv_value.specs.Stacks.{top}
use Rattle.tclv_value.specs.View.{View, HasPlace, IsMade, id_of, text_at}
use Rattle.tclv_value.specs.Ways.{ids_at, NamesPlace, LeadsOpen, last, more}
use Rattle.tclv_value.specs.declared.faults.ValueFault.{ValueFault}
use Rattle.tclv_value.specs.declared.faults.ValueFault.TheVariants as fault
use Rattle.tclv_value.specs.declared.places.At.{At}
use Rattle.tclv_value.specs.declared.places.At.TheVariants.{Stack}
use Rattle.tclv_value.proofs.OpenPlaceLemmas.{open_one}
use Rattle.tclv_value.proofs.ViewLemmas.{G, named_id, text_is, id_of_is}

pub list_known_at : (x : Option (List ℕ)) → IsSome x → (ids : List ℕ) × (x ≡ Some ids)
list_known_at (Some ids) is = (ids, refl)
list_known_at None is = absurd (true≢false (sym is))

-- the text of a place is what its object stands for
text_told : (g : G) (st : Stats) (ids : List ℕ) (es : List (ℕ × ℕ)) (v : View) (view : view_of g st ids es ≡ v) (place : At) → HasPlace v place → text_at v place ≡ text_of v.graph (id_of v place)
text_told g st ids es v view place there =
    subst (λ (w : View). text_at w place ≡ text_of w.graph (id_of w place)) view
    (text_is g st ids es place (named_id g ids es v view place there) ∙ ap (text_of g) (sym (id_of_is g st ids es place)))

pub view_told : (g : G) (st : Stats) (ids : List ℕ) (es : List (ℕ × ℕ)) (v : View) → view_of g st ids es ≡ v → IsTold v
view_told g st ids es v view = record {
  text = λ place there. text_told g st ids es v view place there;
  heights = ap (λ (w : View). length w.stack_ids) (sym view) ∙ sym (length-map ids (text_of g)) ∙ ap (λ (w : View). length w.stack) view;
}

first_id : (s : List ℕ) (n : ℕ) → n < length s → take 1 (drop n s) ≡ get_or s n 0 ∷ []
first_id [] n within = absurd (omega (arith, within))
first_id (x ∷ s) zero within = refl
first_id (x ∷ s) (suc n) within = first_id s n (omega (arith, within))

leads_names : {g : G} {value high id : ℕ} {indices : List ℕ} → LeadsOpen g value high id indices → (k : ℕ) × NamesPlace g id (get_or indices 0 0) k
leads_names (last {k = k} here names low) = (k, names)
leads_names (more {k = k} here names high is leads) = (k, names)

open_names : (v : View) (place : At) → length v.stack_ids ≡ length v.stack → 2 ≤ length v.stack → IsOpenAt v place 1 → (k : ℕ) × NamesPlace v.graph (id_of v place) (id_of v (Stack (length v.stack - 2))) k
open_names v place len high opens =
    let one = first_id v.stack_ids (length v.stack_ids - 2) (omega (arith, len, high)) in
    let named = leads_names (subst (λ xs. LeadsOpen v.graph (id_of v (Stack (length v.stack - 1))) 50 (id_of v place) xs) one opens.leads) in
    (named.0, subst (λ n. NamesPlace v.graph (id_of v place) (get_or v.stack_ids (n - 2) 0) named.0) len named.1)

no_refusal : (why : ValueFault) (k : ℕ) (a : Result ℕ PathFlaw) → a ≡ Ok k → RefusesPath why a → why ≢ fault.NoMemory → ⊥
no_refusal fault.NotWhole k a is h memory = h
no_refusal fault.TooLarge k a is h memory = h
no_refusal fault.FloatForm k a is h memory = h
no_refusal fault.NotTruth k a is h memory = h
no_refusal (fault.NotList flaw) k a is h memory = absurd (let e = sym is ∙ h.1 in cc)
no_refusal fault.BadIndex k a is h memory = absurd (let e = sym is ∙ h in cc)
no_refusal (fault.OutOfRange level) k a is h memory = absurd (let e = sym is ∙ h in cc)
no_refusal fault.NoMemory k a is h memory = memory refl

-- where the index names no place the way isn't open
module _ (v : View) (told : IsTold v) (place i : At) where
  refuted : (len : ℕ) (t : List ℕ) (why : ValueFault) → RefusesPath why (place_or 0 len (index t len)) → why ≢ fault.NoMemory → len ≡ length (ids_at v.graph (id_of v place)) → t ≡ text_of v.graph (id_of v i)
      → 2 ≤ length v.stack → i ≡ Stack (length v.stack - 2) → IsOpenAt v place 1 → ⊥
  refuted len t why refused memory len_is text_is high is opens =
      let named = open_names v place told.heights high opens in
      let there : NamesPlace v.graph (id_of v place) (id_of v i) named.0 = subst (λ p. NamesPlace v.graph (id_of v place) (id_of v p) named.0) (sym is) named.1 in
      no_refusal why named.0 (place_or 0 len (index t len)) (ap (λ n. place_or 0 n (index t n)) len_is ∙ ap (λ u. place_or 0 (length (ids_at v.graph (id_of v place))) (index u (length (ids_at v.graph (id_of v place))))) text_is ∙ there) refused memory

  pub names_refused : (r : Result ℕ ValueFault) (len : ℕ) (t : List ℕ) → IfErr r (λ why. RefusesPath why (place_or 0 len (index t len))) → IfErr r (λ why. why ≢ fault.NoMemory) → len ≡ length (ids_at v.graph (id_of v place)) → t ≡ text_of v.graph (id_of v i)
      → IfErr r (λ why. 2 ≤ length v.stack → i ≡ Stack (length v.stack - 2) → IsOpenAt v place 1 → ⊥)
  names_refused (Ok k) len t refused memory len_is text_is = tt
  names_refused (Err why) len t refused memory len_is text_is = refuted len t why refused memory len_is text_is

-- the same before the list was read and the text of the index made, which an open way has
pub open_refuted : (v0 v1 v2 : View) (place : At) (n : ℕ) → n ≡ length v1.stack → 2 ≤ length v0.stack → (IsListAt v0 place → v1 ≡ v0) → (IsMade v1 (Stack (n - 2)) → v2 ≡ v1)
    → (2 ≤ length v2.stack → Stack (n - 2) ≡ Stack (length v2.stack - 2) → IsOpenAt v2 place 1 → ⊥) → IsOpenAt v0 place 1 → ⊥
open_refuted v0 v1 v2 place n height high unread unmade refuses opens =
    let one = open_one v0 place 1 refl high opens in
    let first = unread one.0 in
    let count : n ≡ length v0.stack = height ∙ ap (λ (v : View). length v.stack) first in
    let made : IsMade v1 (Stack (n - 2)) = subst (λ (v : View). IsMade v (Stack (n - 2))) (sym first) (subst (λ m. IsMade v0 (Stack (m - 2))) (sym count) one.2) in
    let same : v2 ≡ v0 = unmade made ∙ first in
    refuses (subst (λ (v : View). 2 ≤ length v.stack) (sym same) high) (ap (λ m. Stack (m - 2)) count ∙ ap (λ (v : View). Stack (length v.stack - 2)) (sym same)) (subst (λ (v : View). IsOpenAt v place 1) (sym same) opens)
