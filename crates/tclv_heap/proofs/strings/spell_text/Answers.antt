use Rattle.std.proofs.Common.{◌≡◌, ◌<◌, ℕ, [], map, set, Option, Some, None, IsSome, is_some, length, min, ◌+◌, false, refl, sym, ap, ◌∙◌, arith}
use Rattle.std.specs.Prelude.{unwrap_or}
use Rattle.std.proofs.lemmas.List.{length-set}
use Rattle.tclv_text.specs.Texts.{IsText}
use Rattle.tclv_heap.specs.declared.ids.Object.{Object}
use Rattle.std.specs.Str.{chars}
use Rattle.tclv_heap.specs.Graph.{at, stuck, text_in, form_in, form_parts, occurs, Updates, Leads}
use Rattle.tclv_heap.specs.Graph.Leads.{here}
use Rattle.tclv_heap.specs.Stands.{IsSound, SaysSame, stands}
use Rattle.tclv_heap.specs.Noted.{Noted}
use Rattle.tclv_heap.specs.Counters.{text_size}
use Rattle.tclv_heap.proofs.GraphLemmas.{Updates_set}
use Rattle.tclv_heap.proofs.CounterLemmas.{Writes_one}
use Rattle.tclv_heap.proofs.HeapLemmas.{Makes}
use Rattle.tclv_heap.proofs.RetextLemmas.{Noted_one, retexted_there}
use Rattle.tclv_heap.proofs.TextLemmas.{occurs_at, appended_text}
use Rattle.tclv_heap.proofs.strings.spell_text.Given.{Over}
use Rattle.tclv_heap.proofs.strings.spell_text.Goals as goal
use Rattle.tclv_heap.proofs.strings.spell_text.Goals.{After-new-text, In-Some, After-new}

none_from : {X : Type 0} (o : Option X) → is_some o ≡ false → o ≡ None
none_from None e = refl
none_from (Some x) e = absurd (cc)

some_not_none : {X : Type 0} (o : Option X) → o ≡ None → IsSome o → ⊥
some_not_none None e has = absurd (cc)
some_not_none (Some x) e has = absurd (cc)

object_is : (g : Over) (c : After-new-text g) → at c.args.objects.now.slots c.args.id ≡ Some c.index-object.result.now
object_is g c = ap (at c.args.objects.now.slots) (sym c.id.view_is) ∙ c.index-object.ensures

none : (g : Over) (c : After-new-text g) → c.index-object.result.now.text ≡ None
none g c = none_from c.index-object.result.now.text (sym c.is_some.ensures ∙ c.if-is_some.false)

kids_made : (g : Over) (c : In-Some g) → (p : ℕ) → 0 < occurs p (g.T.Types.table.parts c.in-Some.form) → IsSome (text_in (at c.args.objects.now.slots p))
kids_made g c p i =
    let a = (goal.at.In-Some g c).After-new-text in
    let parts = g.T.Types.table.parts in
    let same_parts : form_parts parts (form_in (at c.args.objects.now.slots c.args.id)) ≡ parts c.in-Some.form = ap (form_parts parts) (ap form_in (object_is g a) ∙ c.in-Some.is) in
    c.requires.kids p (omega (arith, i, ap (occurs p) same_parts))

pub spell-requires-clause-kids : goal.spell-requires-clause-kids
spell-requires-clause-kids g c k within = kids_made g (goal.at.spell-requires-clause-kids g c).In-Some _ (occurs_at _ k within)

pub unreachable-requires : goal.unreachable-requires
unreachable-requires g c =
    let a = (goal.at.unreachable-requires g c).After-new-text in
    let has : IsSome c.index-object.result.now.form = c.requires.tells c.index-object.result.now (object_is g a) (none g a) in
    some_not_none c.index-object.result.now.form c.in-None.is has

text_spelt : (g : Over) (c : After-new g) → IsText c.spell.new.out.items × (c.new.result ≡ g.T.Types.table.spelled c.in-Some.form (map (λ p. unwrap_or (text_in (at c.args.objects.now.slots p)) []) (g.T.Types.table.parts c.in-Some.form)))
text_spelt g c =
    let a = appended_text c.new-text.result.items c.spell.new.out.items _ c.in_ok-spell-in-Some.ensures.ok c.new-text.ensures.items in
    (a.0, c.new.ensures ∙ a.1)

written_is : (g : Over) (c : After-new g) → at c.args.objects.now.slots c.args.id ≡ Some c.index_mut-object.result.now
written_is g c = ap (at c.args.objects.now.slots) (sym c.id-2.view_is) ∙ c.index_mut-object.ensures.value

makes : (g : Over) (c : After-new g) → let g0 = c.args.objects.now.slots in let o = c.args.id in let m : Object g.row.T-Form.Denot = record c.index_mut-object.result.now { text = Some c.new.result } in IsSound g.T.Types.table (set g0 o (Some m)) × SaysSame g.T.Types.table g0 (set g0 o (Some m)) × ((n1 : Object g.row.T-Form.Denot) → at g0 o ≡ Some n1 → Updates g0 (set g0 o (Some m)) o (Some (record n1 { text = Some (stands g.T.Types.table g0 o) })))
makes g c =
    let i = (goal.at.After-new g c).In-Some in
    let a = (goal.at.After-new g c).After-new-text in
    Makes g.T.Types.table _ _ c.requires.sound c.index-object.result.now c.index_mut-object.result.now c.in-Some.form (object_is g a) (written_is g c)
    (none g a) c.in-Some.is (kids_made g i) c.new.result (text_spelt g c).1

noted : (g : Over) (c : After-new g) → let g0 = c.args.objects.now.slots in Noted g.T.Types.table (Leads g.T.Types.table.parts g0 c.args.id) g0 c.args.made.now.items (set g0 c.args.id (Some (record c.index_mut-object.result.now { text = Some c.new.result }))) c.push.new.self.items
noted g c =
    let a = (goal.at.After-new g c).After-new-text in
    let n : Object g.row.T-Form.Denot = c.index-object.result.now in
    Noted_one g.T.Types.table _ _ _ c.args.id n _ _ here (object_is g a) (none g a) ((makes g c).2 n (object_is g a)) (length-set _ _ _) c.in_ok-push.ensures.items

pub returns-clause-sound : goal.returns-clause-sound
returns-clause-sound g c = rw c.id-2.view_is (makes g (goal.at.returns-clause-sound g c).After-new).0

pub returns-clause-says : goal.returns-clause-says
returns-clause-says g c o there =
    let a = (goal.at.returns-clause-says g c).After-new in
    rw c.id-2.view_is ((makes g a).1 o there (retexted_there g.T.Types.table _ _ _ (noted g a).retexts o there))

pub returns-clause-noted : goal.returns-clause-noted
returns-clause-noted g c = rw c.id-2.view_is (noted g (goal.at.returns-clause-noted g c).After-new)

pub returns-clause-written : goal.returns-clause-written
returns-clause-written g c =
    let a = (goal.at.returns-clause-written g c).After-new-text in
    let n = c.index_mut-object.result.now in
    let same : c.index-object.result.now ≡ n = (let e : Some c.index-object.result.now ≡ Some n = sym (object_is g a) ∙ written_is g (goal.at.returns-clause-written g c).After-new in cc) in
    let bare : text_size (at c.args.objects.now.slots c.args.id) ≡ 0 = ap text_size (object_is g a) ∙ ap (λ x. length (unwrap_or x [])) (none g a) in
    let u = Updates_set c.args.objects.now.slots c.args.id n (Some (record n { text = Some c.new.result })) (written_is g (goal.at.returns-clause-written g c).After-new) in
    let size : c.point_count.result ≡ length c.new.result = c.point_count.ensures ∙ ap (λ x. length (chars x)) c.as_slice.ensures.value ∙ ap length (sym c.new.ensures) in
    let count : c.saturating_add.result ≡ min (c.args.written.now + length c.new.result) stuck = omega (arith, size) in
    rw c.id-2.view_is (Writes_one _ _ c.args.id _ c.args.written.now _ (length c.new.result) bare u refl count)
