-- Texts that are made before a change, and what a change leaves over all its steps.
use Rattle.std.proofs.Common.{◌-◌, ◌≡◌, ℕ, ◌+◌, ◌<◌, ◌≤◌, inl, inr, List, [], length, get_or, set, Option, Some, None, IsSome, is_some, refl, sym, ap, subst, ◌∙◌, arith}
use Rattle.std.specs.Prelude.{IsOkAnd}
use Rattle.std.specs.Option.{unwrap_or}
use Rattle.std.specs.FinMap.{get}
use Rattle.std.proofs.lemmas.Bool.{cases_eq}
use Rattle.std.proofs.lemmas.List.{get_or-set_same, get_or-set_other, get_or_past}
use Rattle.tclv_text.specs.Elements.{elements}
use Rattle.tclv_text.specs.Quotes.{list_text}
use Rattle.tclv_forms.specs.Lists.{spliced}
use Rattle.tclv_heap.specs.declared.ids.Object.{Object}
use Rattle.tclv_heap.specs.Counters.{raised}
use Rattle.tclv_heap.specs.Graph.{at, count_in, form_in, form_parts}
use Rattle.tclv_heap.specs.Stands.{Retexted, deepest, depth_of}
use Rattle.tclv_value.specs.Changes.{IsUnder, KeepsTexts, Puts, stack_put, cells_put}
use Rattle.tclv_value.specs.Forms.{form_table}
use Rattle.tclv_value.specs.Kept.{list_in, list_at, MakesTexts}
use Rattle.tclv_value.specs.Lists.{replaced}
use Rattle.tclv_value.specs.ListObjects.{IsListAt, IsAloneAt, IsShallow, IsNewAt, ChangesAt, SharesBetween, KeepsPlaces, Retells, depth_at}
use Rattle.tclv_value.specs.Stacks.{top, under}
use Rattle.tclv_value.specs.View.{View, text_at, id_of}
use Rattle.tclv_value.specs.declared.forms.Form.{Form}
use Rattle.tclv_value.specs.declared.forms.Form.TheVariants as form
use Rattle.tclv_value.specs.declared.places.At.{At}
use Rattle.tclv_value.specs.declared.places.At.TheVariants.{Stack, Cell}
use Rattle.tclv_value.proofs.AnswerLemmas.{ok_and}
use Rattle.tclv_value.proofs.GraphLemmas.{by_slot, no_object, retexted_there}
use Rattle.tclv_value.proofs.SharingLemmas.{same_place}
use Rattle.tclv_value.proofs.ViewLemmas.{G, under_there}

-- what made texts leave of each object
module _ (Among : ℕ → Type 0) (g h : G) (r : Retexted form_table Among g h) where
  pub all_lists : (o : ℕ) → list_at h o ≡ list_at g o
  all_lists o = by_slot _ (at g o) (λ e. ap (λ s. list_in (form_in s)) (r.none o e ∙ sym e)) (λ n e. elim (r.kept o n e) [
    | inl same_n ↦ ap (λ s. list_in (form_in s)) (same_n ∙ sym e)
    | inr told ↦ ap (λ s. list_in (form_in s)) told.2 ∙ sym (ap (λ s. list_in (form_in s)) e)
  ])

  pub all_counts : (o : ℕ) → count_in (at h o) ≡ count_in (at g o)
  all_counts o = by_slot _ (at g o) (λ e. ap count_in (r.none o e ∙ sym e)) (λ n e. elim (r.kept o n e) [
    | inl same_n ↦ ap count_in (same_n ∙ sym e)
    | inr told ↦ ap count_in told.2 ∙ sym (ap count_in e)
  ])

  pub all_depths : (o : ℕ) → depth_of (at h o) ≤ depth_of (at g o)
  all_depths o = by_slot _ (at g o) (λ e. omega (arith, ap depth_of (r.none o e ∙ sym e))) (λ n e. elim (r.kept o n e) [
    | inl same_n ↦ omega (arith, ap depth_of (same_n ∙ sym e))
    | inr told ↦ omega (arith, ap depth_of told.2)
  ])

pub retold : (Among : ℕ → Type 0) (v w : View) → KeepsPlaces v w → Retexted form_table Among v.graph w.graph → Retells v w
retold Among v w places r = record {
  places = places;
  there = retexted_there Among v.graph w.graph r;
  lists = all_lists Among v.graph w.graph r;
  counts = all_counts Among v.graph w.graph r;
  depths = all_depths Among v.graph w.graph r;
}

pub Retells_same : (v : View) → Retells v v
Retells_same v = record {
  places = record { stack = refl; cells = refl };
  there = λ o is. is;
  lists = λ o. refl;
  counts = λ o. refl;
  depths = λ o. omega arith;
}

pub Retells_then : (a b c : View) → Retells a b → Retells b c → Retells a c
Retells_then a b c first second = record {
  places = record { stack = second.places.stack ∙ first.places.stack; cells = second.places.cells ∙ first.places.cells };
  there = λ o is. second.there o (first.there o is);
  lists = λ o. second.lists o ∙ first.lists o;
  counts = λ o. second.counts o ∙ first.counts o;
  depths = λ o. omega (arith, second.depths o, first.depths o);
}

-- a place that is less than 50 deep stays so
pub stays_shallow : (v w : View) → Retells v w → (place : At) → depth_at v place < deepest → depth_at w place < deepest
stays_shallow v w r place before =
    let same : depth_at w place ≡ depth_of (at w.graph (id_of v place)) = ap (λ o. depth_of (at w.graph o)) (same_place v w r.places place) in
    omega (arith, before, same, r.depths (id_of v place))

-- one more of the top n is less than 50 deep
pub more_shallow : (v w : View) (low k : ℕ) → Retells v w → ((j : ℕ) → j < k → depth_at v (Stack (low + j)) < deepest) → depth_at w (Stack (low + k)) < deepest → (j : ℕ) → j < k + 1 → depth_at w (Stack (low + j)) < deepest
more_shallow v w low k r before here j within = elim (cases_eq j k) [
  | inl e ↦ subst (λ i. depth_at w (Stack (low + i)) < deepest) (sym e) here
  | inr ne ↦ stays_shallow v w r (Stack (low + j)) (before j (omega (arith, within, ne)))
]

-- The list of a place is read, texts are made, and then the list is changed.
module _ (v0 v1 v2 v3 : View) (place : At) (n : ℕ) (places : KeepsPlaces v0 v1) (stay : (o : ℕ) → IsSome (at v0.graph o) → IsSome (at v1.graph o)) (count : count_in (at v1.graph (id_of v1 place)) ≡ count_in (at v0.graph (id_of v0 place))) (unread : IsListAt v0 place → v1 ≡ v0) (r : Retells v1 v2) (unmade : IsShallow n v1 → v2 ≡ v1) (listed : IsListAt v3 place) where
  id_2 : id_of v2 place ≡ id_of v0 place
  id_2 = same_place v1 v2 r.places place ∙ same_place v0 v1 places place

  count_2 : count_in (at v2.graph (id_of v2 place)) ≡ count_in (at v0.graph (id_of v0 place))
  count_2 = ap (λ o. count_in (at v2.graph o)) (same_place v1 v2 r.places place) ∙ r.counts (id_of v1 place) ∙ count

  pub changes_in_place : IsAloneAt v2 place → id_of v3 place ≡ id_of v2 place → ChangesAt v0 place v3
  unfolding ChangesAt
  changes_in_place alone same = (listed, λ _. same ∙ id_2, λ no. absurd (no (sym count_2 ∙ alone)))

  pub changes_in_copy : (IsAloneAt v2 place → ⊥) → IsNewAt v2 v3 place → ChangesAt v0 place v3
  unfolding ChangesAt
  changes_in_copy shared fresh = (
    listed,
    λ alone. absurd (shared (count_2 ∙ alone)),
    λ _. by_slot _ (at v0.graph (id_of v3 place)) (λ e. e) (λ x e. absurd (no_object v2.graph (id_of v3 place) fresh (r.there _ (stay _ (ap is_some e))))),
  )

  module _ (from to : ℕ) (elements : (ids : List ℕ) → list_at v2.graph (id_of v2 place) ≡ Some ids → list_at v3.graph (id_of v3 place) ≡ Some (spliced ids from to (top n v2.stack_ids))) where
    module _ (ids : List ℕ) (is : list_at v0.graph (id_of v0 place) ≡ Some ids) where
      same_1 : v1 ≡ v0
      same_1 = unread (ap is_some is)

      pub list_2 : list_at v2.graph (id_of v2 place) ≡ Some ids
      list_2 = ap (list_at v2.graph) (same_place v1 v2 r.places place) ∙ r.lists (id_of v1 place) ∙ ap (λ (w : View). list_at w.graph (id_of w place)) same_1 ∙ is

      elements_3 : list_at v3.graph (id_of v3 place) ≡ Some (spliced ids from to (top n v0.stack_ids))
      elements_3 = elements ids list_2 ∙ ap (λ xs. Some (spliced ids from to (top n xs))) (r.places.stack ∙ places.stack)

      same_2 : IsShallow n v0 → v2 ≡ v0
      same_2 shallow = unmade (subst (IsShallow n) (sym same_1) shallow) ∙ same_1

    pub shares_in_place : IsAloneAt v2 place → v3.stats ≡ v2.stats → SharesBetween v0 place from to n v3
    unfolding SharesBetween
    shares_in_place alone stats ids is = (elements_3 ids is, λ shallow _. stats ∙ ap (λ (w : View). w.stats) (same_2 ids is shallow), λ shallow no. absurd (no (sym count_2 ∙ alone)))

    pub shares_in_copy : (IsAloneAt v2 place → ⊥) → ((ids : List ℕ) → list_at v2.graph (id_of v2 place) ≡ Some ids → v3.stats ≡ record v2.stats { copied = raised v2.stats.copied (length ids) }) → SharesBetween v0 place from to n v3
    unfolding SharesBetween
    shares_in_copy shared stats ids is = (
      elements_3 ids is,
      λ shallow alone. absurd (shared (count_2 ∙ alone)),
      λ shallow _. stats ids (list_2 ids is) ∙ ap (λ (w : View). record w.stats { copied = raised w.stats.copied (length ids) }) (same_2 ids is shallow),
    )

no_parts : (f : Option Form) → list_in f ≡ None → form_parts form_table.parts f ≡ []
no_parts None none = refl
no_parts (Some (form.Whole n)) none = refl
no_parts (Some (form.List items)) none = absurd (cc)

-- An object that isn't kept as a list gets its text, objects are made of the elements, and it gets another form.
module _ (Among : ℕ → Type 0) (a b d h : G) (o : ℕ) (ts : List (List ℕ)) (ids : List ℕ) (there : IsSome (at a o)) (r : Retexted form_table Among a b) (makes : MakesTexts b ts d ids) (unlisted : list_at a o ≡ None) (f : Form) (depth : ℕ) (rest : (n : Object Form) → at d o ≡ Some n → form_parts form_table.parts n.form ≡ [] → h ≡ set d o (Some (record n { form = Some f; depth = depth }))) where
  in_d : (x : ℕ) → IsSome (at a x) → IsSome (at d x)
  in_d x is = let is_b = retexted_there Among a b r x is in subst IsSome (sym (makes.others x is_b)) is_b

  list_d : list_at d o ≡ None
  list_d = ap (λ s. list_in (form_in s)) (makes.others o (retexted_there Among a b r o there)) ∙ all_lists Among a b r o ∙ unlisted

  written : (P : Type 0) → ((n : Object Form) → at d o ≡ Some n → h ≡ set d o (Some (record n { form = Some f; depth = depth })) → P) → P
  written P k = by_slot P (at d o) (λ e. absurd (no_object d o e (in_d o there))) (λ n e. k n e (rest n e (no_parts n.form (sym (ap (λ s. list_in (form_in s)) e) ∙ list_d))))

  here : (n : Object Form) → at d o ≡ Some n → h ≡ set d o (Some (record n { form = Some f; depth = depth })) → at h o ≡ Some (record n { form = Some f; depth = depth })
  here n e is_h = ap (λ g. at g o) is_h ∙ get_or-set_same d o (Some (record n { form = Some f; depth = depth })) None (inside d o n e)
    where
      inside : (g : G) (x : ℕ) (y : Object Form) → at g x ≡ Some y → x < length g
      inside g x y is = grind (arith, get_or_past)

  pub read_stay : (x : ℕ) → IsSome (at a x) → IsSome (at h x)
  read_stay x is = written _ (λ n e is_h. elim (cases_eq x o) [
    | inl same_x ↦ ap (λ y. is_some (at h y)) same_x ∙ ap is_some (here n e is_h)
    | inr ne ↦ ap (λ g. is_some (at g x)) is_h ∙ ap is_some (get_or-set_other d o x (Some (record n { form = Some f; depth = depth })) None ne) ∙ in_d x is
  ])

  pub read_count : count_in (at h o) ≡ count_in (at a o)
  read_count = written _ (λ n e is_h. ap count_in (here n e is_h) ∙ sym (ap count_in e) ∙ ap count_in (makes.others o (retexted_there Among a b r o there)) ∙ all_counts Among a b r o)

-- what a call puts after a call that keeps all texts
pub puts_after : (a b w : View) (n : ℕ) (place : At) (t : List ℕ) → KeepsTexts a b → Puts b n place t w → Puts a n place t w
puts_after a b w n place t texts puts = record {
  stack = puts.stack ∙ ap (λ s. stack_put (under n s) place t) texts.stack;
  cells = puts.cells ∙ ap (λ m. cells_put m place t) texts.cells;
  stays = λ p ne is made. puts.stays p ne (under_after p is) (texts.stays p (under_there a n p is) made);
}
  where
    under_after : (p : At) → IsUnder a n p → IsUnder b n p
    under_after (Stack i) is = omega (arith, is, ap length texts.stack)
    under_after (Cell c) is = (omega (arith, is.0, ap length texts.stack), subst (λ m. IsSome (get m c)) (sym texts.cells) is.1)

text_after : (a b : View) → KeepsTexts a b → (place : At) → text_at b place ≡ text_at a place
text_after a b texts (Stack i) = ap (λ s. get_or s i []) texts.stack
text_after a b texts (Cell c) = ap (λ m. unwrap_or (get m c) []) texts.cells

pub replaced_after : (a b w : View) (n from to : ℕ) (place : At) → KeepsTexts a b → IsOkAnd (elements (text_at b place)) (λ ts. Puts b n place (list_text (replaced ts from to (top n b.stack))) w) → IsOkAnd (elements (text_at a place)) (λ ts. Puts a n place (list_text (replaced ts from to (top n a.stack))) w)
replaced_after a b w n from to place texts done =
    subst (λ t. IsOkAnd (elements t) (λ ts. Puts a n place (list_text (replaced ts from to (top n a.stack))) w)) (text_after a b texts place)
    (ok_and (elements (text_at b place)) _ _ (λ ts puts. subst (λ s. Puts a n place (list_text (replaced ts from to (top n s))) w) texts.stack (puts_after a b w n place _ texts puts)) done)

-- the top text is less than 50 deep
pub unmade_top : (v w : View) → (depth_at v (Stack (length v.stack - 1)) < deepest → w ≡ v) → IsShallow 1 v → w ≡ v
unmade_top v w before shallow = before (omega (arith, shallow 0 (omega arith), ap (λ i. depth_at v (Stack i)) (same_number (length v.stack - 1))))
  where
    same_number : (i : ℕ) → i + 0 ≡ i
    same_number i = omega arith
