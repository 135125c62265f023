-- The indices of an array that are set.
use Rattle.std.proofs.Common.{◌≡◌, ℕ, suc, true, false, cond, is_some, List, [], ◌∷◌, map, length, Some, refl, sym, ap, ◌∙◌, T}
use Rattle.std.specs.List.{filter, AllByRecursion}
use Rattle.std.specs.Option.{option_map_or}
use Rattle.std.specs.Str.{chars}
use Rattle.std.specs.Cmp.{eq_by_cmp_equiv}
use Rattle.std.specs.Cmp.Lexicographic.{nat_list_cmp_total}
use Rattle.std.specs.FinMap.{get, keys, entries, entries_sorted, get-entries, find, is_sorted, nat_cmp-IsAntisymmetric, slice_cmp-IsAntisymmetric}
use Rattle.std.specs.FinMap.Entries.{below_all}
use Rattle.std.proofs.lemmas.List.{length-map}
use Rattle.tclv_names.specs.Keyed.{Text, by_text, Named, Numbers, values_of}
use Rattle.tclv_vars.specs.declared.parts.Content.{Content}
use Rattle.tclv_vars.specs.Indices.{is_set, names_of}
use Rattle.tclv_vars.proofs.EntryLemmas.{above_apart, first, second}

-- the entries behind one stand behind it too
behind : (e : Text × ℕ) (fs gs : List (Text × ℕ)) → T (below_all by_text e.0 fs) → AllByRecursion (λ f. find by_text f.0 fs ≡ Some f.1) gs → AllByRecursion (λ f. find by_text f.0 (e ∷ fs) ≡ Some f.1) gs
behind e fs [] below h = tt
behind e fs (g ∷ gs) below h = (
  ap (λ b. cond b (Some e.1) (find by_text g.0 fs)) (above_apart nat_list_cmp_total (slice_cmp-IsAntisymmetric nat_cmp-IsAntisymmetric) (λ _. true) e.0 g.0 g.1 fs below h.0) ∙ h.0,
  behind e fs gs below h.1,
)

each_found : (fs : List (Text × ℕ)) → T (is_sorted by_text fs) → AllByRecursion (λ f. find by_text f.0 fs ≡ Some f.1) fs
each_found [] h = tt
each_found (f ∷ fs) h = (
  ap (λ b. cond b (Some f.1) (find by_text f.0 fs)) ((eq_by_cmp_equiv nat_list_cmp_total).refl f.0),
  behind f fs fs (first _ _ h) (each_found fs (second _ _ h)),
)

module _ (cs : Numbers Content) (es : Named ℕ) where
  by_entries : (fs : List (Text × ℕ)) → AllByRecursion (λ f. find by_text f.0 (entries es) ≡ Some f.1) fs → length (filter (λ n. is_some (get cs n)) (map (λ f. f.1) fs)) ≡ length (filter (is_set cs es) (map (λ f. f.0) fs))
  by_entries [] h = refl
  by_entries (f ∷ fs) h =
      let same : is_set cs es f.0 ≡ is_some (get cs f.1) = ap (λ o. option_map_or (λ e. is_some (get cs e)) o false) (get-entries es f.0 ∙ h.0) in
      elim (is_some (get cs f.1)) as (λ b. length (cond b (f.1 ∷ filter (λ n. is_some (get cs n)) (map (λ g. g.1) fs)) (filter (λ n. is_some (get cs n)) (map (λ g. g.1) fs))) ≡ length (cond b (f.0 ∷ filter (is_set cs es) (map (λ g. g.0) fs)) (filter (is_set cs es) (map (λ g. g.0) fs)))) [
        | true ↦ ap suc (by_entries fs h.1)
        | false ↦ by_entries fs h.1
      ]
      ∙ ap (λ b. length (cond b (f.0 ∷ filter (is_set cs es) (map (λ g. g.0) fs)) (filter (is_set cs es) (map (λ g. g.0) fs)))) (sym same)

  -- as many cells of elements hold something as there are names
  pub count_names : length (filter (λ n. is_some (get cs n)) (values_of es)) ≡ length (names_of cs es)
  count_names = by_entries (entries es) (each_found (entries es) (entries_sorted es)) ∙ sym (length-map (filter (is_set cs es) (keys es)) chars)
