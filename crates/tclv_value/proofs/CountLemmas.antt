-- What is counted where a list is read, texts are made, and then the list is changed.
use Rattle.std.proofs.Common.{◌≡◌, ℕ, ◌-◌, ◌<◌, List, length, Some, IsSome, is_some, Result, Ok, Err, sym, ap, subst, ◌∙◌}
use Rattle.std.specs.Prelude.{IsOkAnd}
use Rattle.tclv_text.specs.declared.counters.Stats.{Stats}
use Rattle.tclv_text.specs.Elements.{elements}
use Rattle.tclv_heap.specs.Counters.{raised}
use Rattle.tclv_heap.specs.Graph.{at, count_in}
use Rattle.tclv_heap.specs.Stands.{deepest}
use Rattle.tclv_value.specs.Changes.{KeepsTexts}
use Rattle.tclv_value.specs.Kept.{list_at}
use Rattle.tclv_value.specs.ListObjects.{IsListAt, IsAloneAt, count_at, depth_at, KeepsPlaces, Retells, CountsRead, ReadsAt, CopiesAt, CopiesNone, OnlyWrites, CopiesShared}
use Rattle.tclv_value.specs.Places.{text_of, id_at, view_of}
use Rattle.tclv_value.specs.Setting.{copied_more}
use Rattle.tclv_value.specs.View.{View, id_of, text_at}
use Rattle.tclv_value.specs.declared.places.At.{At}
use Rattle.tclv_value.specs.declared.places.At.TheVariants.{Stack}
use Rattle.tclv_value.proofs.AnswerLemmas.{ok_and}
use Rattle.tclv_value.proofs.SetOneLemmas.{text_same, keeps_then}
use Rattle.tclv_value.proofs.SharingLemmas.{same_place}
use Rattle.tclv_value.proofs.ViewLemmas.{G, id_of_is}

-- what is counted for an object, as a place of a store has it
pub read_as : (g h : G) (st st2 : Stats) (ids : List ℕ) (es : List (ℕ × ℕ)) (id : ℕ) (place : At) (v : View) → view_of g st ids es ≡ v → id ≡ id_at ids es place → text_of g id ≡ text_at v place → CountsRead st g id st2 → ReadsAt v place (view_of h st2 ids es)
unfolding CountsRead ReadsAt
read_as g h st st2 ids es id place v view is text counted =
    let listed : IsListAt v place → IsSome (list_at g id) = λ list. subst (λ o. IsSome (list_at g o)) (id_of_is g st ids es place ∙ sym is) (subst (λ w. IsListAt w place) (sym view) list) in
    let back : IsSome (list_at g id) → IsListAt v place = λ list. subst (λ w. IsListAt w place) view (subst (λ o. IsSome (list_at g o)) (is ∙ sym (id_of_is g st ids es place)) list) in
    let same : st.read ≡ v.stats.read = ap (λ (w : View). w.stats.read) view in (
      λ list. counted.0 (listed list) ∙ same,
      λ no. counted.1 (λ list. no (back list)) ∙ ap (raised st.read) (ap length text) ∙ ap (λ n. raised n (length (text_at v place))) same,
    )

-- how many holders the object of a place has, over both steps
count_then : (v0 v1 v2 : View) (place : At) → KeepsPlaces v0 v1 → count_at v1 place ≡ count_at v0 place → Retells v1 v2 → count_at v2 place ≡ count_at v0 place
count_then v0 v1 v2 place places count r = ap (λ o. count_in (at v2.graph o)) (same_place v1 v2 r.places place) ∙ r.counts (id_of v1 place) ∙ count

read_same : (v0 v1 v2 v3 : View) (place : At) → ReadsAt v0 place v1 → OnlyWrites v1 v2 → v3.stats.read ≡ v2.stats.read → ReadsAt v0 place v3
unfolding ReadsAt OnlyWrites
read_same v0 v1 v2 v3 place reads writes same = (λ list. same ∙ writes.0 ∙ reads.0 list, λ no. same ∙ writes.0 ∙ reads.1 no)

pub read_then : (v0 v1 v2 v3 : View) (place : At) → ReadsAt v0 place v1 → OnlyWrites v1 v2 → v3.stats ≡ v2.stats → ReadsAt v0 place v3
read_then v0 v1 v2 v3 place reads writes same = read_same v0 v1 v2 v3 place reads writes (ap (λ (s : Stats). s.read) same)

-- copying reads nothing
read_copied : {A E : Type 0} (r : Result (List A) E) (before after : Stats) → IsOkAnd r (λ ts. after ≡ copied_more before (length ts)) → after.read ≡ before.read
read_copied (Ok ts) before after e = ap (λ (s : Stats). s.read) e
read_copied (Err e) before after h = absurd h

pub read_in_copy : (v0 v1 v2 v3 : View) (place : At) → ReadsAt v0 place v1 → OnlyWrites v1 v2 → IsOkAnd (elements (text_at v2 place)) (λ ts. v3.stats ≡ copied_more v2.stats (length ts)) → ReadsAt v0 place v3
read_in_copy v0 v1 v2 v3 place reads writes stats = read_same v0 v1 v2 v3 place reads writes (read_copied (elements (text_at v2 place)) v2.stats v3.stats stats)

pub copied_in_place : (v0 v1 v2 v3 : View) (place : At) → KeepsPlaces v0 v1 → count_at v1 place ≡ count_at v0 place → Retells v1 v2 → CopiesNone v0 v1 → OnlyWrites v1 v2 → IsAloneAt v2 place → v3.stats ≡ v2.stats → CopiesAt v0 place v3
unfolding CopiesAt CopiesNone OnlyWrites
copied_in_place v0 v1 v2 v3 place places count r none writes alone same = (
  λ _. ap (λ (s : Stats). s.copied) same ∙ writes.1 ∙ none,
  λ no. absurd (no (sym (count_then v0 v1 v2 place places count r) ∙ alone)),
)

pub copied_in_copy : (v0 v1 v2 v3 : View) (place : At) → KeepsPlaces v0 v1 → count_at v1 place ≡ count_at v0 place → Retells v1 v2 → CopiesNone v0 v1 → OnlyWrites v1 v2 → KeepsTexts v0 v1 → KeepsTexts v1 v2 → (IsAloneAt v2 place → ⊥) → IsOkAnd (elements (text_at v2 place)) (λ ts. v3.stats ≡ copied_more v2.stats (length ts)) → CopiesAt v0 place v3
unfolding CopiesAt CopiesNone OnlyWrites
copied_in_copy v0 v1 v2 v3 place places count r none writes first second shared stats = (
  λ alone. absurd (shared (count_then v0 v1 v2 place places count r ∙ alone)),
  λ _. subst (λ t. IsOkAnd (elements t) (λ ts. v3.stats.copied ≡ raised v0.stats.copied (length ts))) (text_same v0 v2 place (keeps_then v0 v1 v2 first second))
      (ok_and (elements (text_at v2 place)) (λ ts. v3.stats ≡ copied_more v2.stats (length ts)) (λ ts. v3.stats.copied ≡ raised v0.stats.copied (length ts)) (λ ts e. ap (λ (s : Stats). s.copied) e ∙ ap (λ n. raised n (length ts)) (writes.1 ∙ none)) stats),
)

-- where one holder alone has the object
pub shared_none : (v0 v1 v2 v3 : View) (place : At) → KeepsPlaces v0 v1 → count_at v1 place ≡ count_at v0 place → Retells v1 v2 → IsAloneAt v2 place → CopiesShared v0 place v3
unfolding CopiesShared
shared_none v0 v1 v2 v3 place places count r alone = λ ids is shared low. absurd (shared (sym (count_then v0 v1 v2 place places count r) ∙ alone))

pub shared_copied : (v0 v1 v2 v3 : View) (place : At) → (IsListAt v0 place → v1 ≡ v0) → (depth_at v1 (Stack (length v1.stack - 1)) < deepest → v2 ≡ v1) → ((ids : List ℕ) → list_at v2.graph (id_of v2 place) ≡ Some ids → v3.stats ≡ copied_more v2.stats (length ids)) → CopiesShared v0 place v3
unfolding CopiesShared
shared_copied v0 v1 v2 v3 place unread unmade stats = λ ids is shared low.
    let first = unread (ap is_some is) in
    let second = unmade (subst (λ (v : View). depth_at v (Stack (length v.stack - 1)) < deepest) (sym first) low) in
    let same : v2 ≡ v0 = second ∙ first in
    stats ids (ap (λ (v : View). list_at v.graph (id_of v place)) same ∙ is) ∙ ap (λ (v : View). copied_more v.stats (length ids)) same
