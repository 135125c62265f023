-- The indices of an array stand in the order of their code points.
use Rattle.std.proofs.Common.{◌≡◌, ℕ, true, false, cond, is_some, List, [], ◌∷◌, map, Option, None, Some, refl, subst, T}
use Rattle.std.specs.Prelude.{Ok}
use Rattle.std.specs.declared.cmp.Ordering.{Ordering}
use Rattle.std.specs.declared.cmp.Ordering.TheVariants.{Less, Equal, Greater}
use Rattle.std.specs.Ordering.{nat_cmp, is_lt}
use Rattle.std.specs.Cmp.Lexicographic.{slice_cmp}
use Rattle.std.specs.List.{filter, AllByRecursion}
use Rattle.std.specs.List.Sorted.{IsStrictlySortedBy}
use Rattle.std.specs.Option.{option_map_or}
use Rattle.std.specs.FinMap.{get, keys, entries, entries_sorted, is_sorted}
use Rattle.std.specs.FinMap.Entries.{below_all}
use Rattle.std.proofs.lemmas.List.Kept.{IsStrictlySortedBy-filter}
use Rattle.tclv_text.specs.Texts.{IsText}
use Rattle.tclv_names.specs.Keyed.{Text, by_text, Named, Numbers}
use Rattle.tclv_vars.specs.declared.parts.Slot.{Slot}
use Rattle.tclv_vars.specs.declared.parts.Content.{Content}
use Rattle.tclv_vars.specs.declared.parts.Content.TheVariants.{Plain, Array}
use Rattle.tclv_vars.specs.declared.places.Place.{Place}
use Rattle.tclv_vars.specs.Scoping.{home, slot_of}
use Rattle.tclv_vars.specs.Table.{Table}
use Rattle.tclv_vars.specs.Sound.{Sound}
use Rattle.tclv_vars.specs.Indices.{is_set, names_of, names_at, names_slot, array_names}
use Rattle.tclv_vars.proofs.EntryLemmas.{first, second}
use Rattle.tclv_vars.proofs.CellLemmas.{same_ok, no_err}
use Rattle.tclv_vars.proofs.ByteOrder.{in_order}

less : (r : Ordering) → T (is_lt r) → r ≡ Less
less Less h = refl
less Equal h = absurd h
less Greater h = absurd h

all_above : (x : Text) (es : List (Text × ℕ)) → T (below_all by_text x es) → AllByRecursion (λ y. by_text x y ≡ Less) (map (λ e. e.0) es)
all_above x [] h = tt
all_above x (e ∷ es) h = (less _ (first _ _ h), all_above x es (second _ _ h))

strictly : (es : List (Text × ℕ)) → T (is_sorted by_text es) → IsStrictlySortedBy by_text (map (λ e. e.0) es)
unfolding IsStrictlySortedBy
strictly [] h = tt
strictly (e ∷ es) h = (all_above e.0 es (first _ _ h), strictly es (second _ _ h))

texts_of : (cs : Numbers Content) (es : Named ℕ) (ts : List Text) → ((i : Text) (e : ℕ) → get es i ≡ Some e → IsText i) → AllByRecursion IsText (filter (is_set cs es) ts)
texts_of cs es [] h = tt
texts_of cs es (t ∷ ts) h = elim (get es t) as (λ o. get es t ≡ o → AllByRecursion IsText (cond (option_map_or (λ e. is_some (get cs e)) o false) (t ∷ filter (is_set cs es) ts) (filter (is_set cs es) ts))) [
  | None ↦ λ e. texts_of cs es ts h
  | Some x ↦ λ e. elim (is_some (get cs x)) as (λ b. AllByRecursion IsText (cond b (t ∷ filter (is_set cs es) ts) (filter (is_set cs es) ts))) [
    | true ↦ (h t x e, texts_of cs es ts h)
    | false ↦ texts_of cs es ts h
  ]
] refl

sorted_names : (cs : Numbers Content) (es : Named ℕ) → ((i : Text) (e : ℕ) → get es i ≡ Some e → IsText i) → IsStrictlySortedBy (slice_cmp nat_cmp) (names_of cs es)
sorted_names cs es h = in_order (filter (is_set cs es) (keys es)) (texts_of cs es (keys es) h) (IsStrictlySortedBy-filter by_text (is_set cs es) (keys es) (strictly (entries es) (entries_sorted es)))

by_content : (t : Table) (c : ℕ) (o : Option Content) (names : List (List ℕ)) → Sound t → get t.contents c ≡ o → names_at t.contents o ≡ Ok names → IsStrictlySortedBy (slice_cmp nat_cmp) names
by_content t c None names sound e h = no_err h
by_content t c (Some Plain) names sound e h = no_err h
by_content t c (Some (Array es)) names sound e h = subst (IsStrictlySortedBy (slice_cmp nat_cmp)) (same_ok (names_of t.contents es) names h) (sorted_names t.contents es (λ i x g. sound.texts c es i x e g))

by_slot : (t : Table) (o : Option Slot) (names : List (List ℕ)) → Sound t → names_slot t.contents o ≡ Ok names → IsStrictlySortedBy (slice_cmp nat_cmp) names
by_slot t None names sound h = no_err h
by_slot t (Some s) names sound h = by_content t s.cell (get t.contents s.cell) names sound refl h

pub names_in_order : (t : Table) (at : Place) (n : Text) (names : List (List ℕ)) → Sound t → array_names t at n ≡ Ok names → IsStrictlySortedBy (slice_cmp nat_cmp) names
names_in_order t at n names sound h = by_slot t (slot_of t.scopes (home t.scopes at) n) names sound h
