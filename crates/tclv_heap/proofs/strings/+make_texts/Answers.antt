use Rattle.std.proofs.Common.{◌≡◌, ◌<◌, ◌≤◌, ◌+◌, ◌++◌, ◌∷◌, [], length, take, get_or, Option, Some, None, IsSome, is_some, false, refl, sym, ap, ◌∙◌, arith, subst}
use Rattle.std.proofs.lemmas.List.{take_more, take_all}
use Rattle.tclv_heap.specs.Graph.{at, occurs, form_in, text_in, form_parts}
use Rattle.tclv_heap.specs.Graph.Leads.{here}
use Rattle.std.specs.Prelude.{Result, Ok, Err, OnOk}
use Rattle.tclv_heap.proofs.CounterLemmas.{Writes_none, Writes_then}
use Rattle.tclv_heap.proofs.RetextLemmas.{Noted_then, Noted_same, retexted_there, retexted_form, retexted_text, retexted_lower, retexted_tells, retexted_leads, kid_occurs, kid_leads, kid_told, made_more}
use Rattle.tclv_heap.proofs.strings.+make_texts.Goals as goal

none_from : {X : Type 0} (o : Option X) → is_some o ≡ false → o ≡ None
none_from None e = refl
none_from (Some x) e = absurd (cc)

on_ok : {T E : Type 0} {P Q : Type 0} (r : Result T E) → (P → Q) → OnOk r P → OnOk r Q
on_ok (Ok x) f p = f p
on_ok (Err e) f p = tt

pub make_texts-requires : goal.make_texts-requires
make_texts-requires g t c κs within =
    let tb = g.T.Types.table in
    let old = c.args.objects.now.slots in
    let now = c.loop-kid.objects.slots in
    let r = c.loop-kid.invariant.2.retexts in
    let is : at old c.args.id ≡ Some c.index.result.now = ap (at old) (sym c.id.view_is) ∙ c.index.ensures in
    let none = none_from c.index.result.now.text (sym c.is_some.ensures ∙ c.if-is_some.false) in
    let i = kid_occurs tb _ old now r c.args.id c.in-Some.kid c.loop-kid.k c.in-Some.ensures.some.0 c.in-Some.ensures.some.1 in
    let low = retexted_lower tb _ old now r c.requires.sound.spoken c.loop-kid.invariant.0 c.args.id c.index.result.now c.in-Some.kid is none i in
    let told = kid_told tb _ old now r c.args.id c.in-Some.kid c.loop-kid.k c.in-Some.ensures.some.0 c.in-Some.ensures.some.1 c.requires.told in
    (omega (arith, c.decreases, low.0), (within.0, (within.1, (c.loop-kid.invariant.0, (low.1, (told, omega (arith, c.loop-kid.invariant.4.counter)))))))

pub returns-in_err-make_texts-clause-noted : goal.returns-in_err-make_texts-clause-noted
returns-in_err-make_texts-clause-noted g t c =
    let tb = g.T.Types.table in
    let old = c.args.objects.now.slots in
    let now = c.loop-kid.objects.slots in
    let wider = kid_leads tb _ old now c.loop-kid.invariant.2.retexts c.args.id c.in-Some.kid c.loop-kid.k c.in-Some.ensures.some.0 c.in-Some.ensures.some.1 in
    Noted_then tb _ _ old now _ _ _ _ c.loop-kid.invariant.1 wider c.loop-kid.invariant.2 c.in_err-make_texts.ensures.noted

pub loop-kid-preserved : goal.loop-kid-preserved
loop-kid-preserved g t c =
    let tb = g.T.Types.table in
    let parts = tb.parts in
    let old = c.args.objects.now.slots in
    let now = c.loop-kid.objects.slots in
    let new = c.make_texts.new.objects.slots in
    let r = c.loop-kid.invariant.2.retexts in
    let ps = form_parts parts (form_in (at old c.args.id)) in
    let same_form : form_in (at now c.args.id) ≡ form_in (at old c.args.id) = retexted_form tb _ old now r c.args.id in
    let within : c.loop-kid.k < length ps = omega (arith, c.in-Some.ensures.some.0, ap (λ x. length (form_parts parts x)) same_form) in
    let kid : c.in-Some.kid ≡ get_or ps c.loop-kid.k 0 = c.in-Some.ensures.some.1 ∙ ap (λ x. get_or (form_parts parts x) c.loop-kid.k 0) same_form in
    let more : take (c.loop-kid.k + 1) ps ≡ take c.loop-kid.k ps ++ c.in-Some.kid ∷ [] = take_more ps c.loop-kid.k 0 within ∙ ap (λ x. take c.loop-kid.k ps ++ x ∷ []) (sym kid) in
    let wider = kid_leads tb _ old now r c.args.id c.in-Some.kid c.loop-kid.k c.in-Some.ensures.some.0 c.in-Some.ensures.some.1 in (
      c.in_ok-make_texts.ensures.sound,
      (λ o there. c.in_ok-make_texts.ensures.says o (retexted_there tb _ old now r o there) ∙ c.loop-kid.invariant.1 o there),
      Noted_then tb _ _ old now new _ _ _ c.loop-kid.invariant.1 wider c.loop-kid.invariant.2 c.in_ok-make_texts.ensures.noted,
      λ p i. made_more p c.in-Some.kid (take c.loop-kid.k ps) (take (c.loop-kid.k + 1) ps) (IsSome (text_in (at new p))) more i
          (λ some. retexted_text tb _ now new c.in_ok-make_texts.ensures.noted.retexts p (c.loop-kid.invariant.3 p some))
          (λ e. ap (λ x. is_some (text_in (at new x))) e ∙ c.in_ok-make_texts.ensures.made),
      Writes_then _ now new _ _ _ c.loop-kid.invariant.4 c.in_ok-make_texts.ensures.written,
    )

pub loop-kid-init : goal.loop-kid-init
loop-kid-init g t c =
    let tb = g.T.Types.table in
    let old = c.args.objects.now.slots in
    (c.requires.sound, λ o there. refl, Noted_same tb _ old _, λ p i. absurd (omega (arith, i)), Writes_none old _ c.requires.small)

pub spell_text-requires-clause-small : goal.spell_text-requires-clause-small
spell_text-requires-clause-small g t c = omega (arith, c.loop-kid.invariant.4.counter)

pub returns-clause-written : goal.returns-clause-written
returns-clause-written g t c = on_ok c.spell_text.result (Writes_then _ _ _ _ _ _ c.loop-kid.invariant.4) c.spell_text.ensures.written

pub returns-then-is_some-clause-written : goal.returns-then-is_some-clause-written
returns-then-is_some-clause-written g t c = Writes_none _ _ c.requires.small

pub spell_text-requires-clause-tells : goal.spell_text-requires-clause-tells
spell_text-requires-clause-tells g t c = retexted_tells g.T.Types.table _ _ _ c.loop-kid.invariant.2.retexts c.args.id (c.requires.told c.args.id here)

pub spell_text-requires-clause-kids : goal.spell_text-requires-clause-kids
spell_text-requires-clause-kids g t c p i =
    let tb = g.T.Types.table in
    let parts = tb.parts in
    let old = c.args.objects.now.slots in
    let same_form : form_in (at c.loop-kid.objects.slots c.args.id) ≡ form_in (at old c.args.id) = retexted_form tb _ _ _ c.loop-kid.invariant.2.retexts c.args.id in
    let ps = form_parts parts (form_in (at old c.args.id)) in
    let past : length ps ≤ c.loop-kid.k = omega (arith, c.in_default.ensures.none, ap (λ x. length (form_parts parts x)) same_form) in
    let i_ps : 0 < occurs p ps = omega (arith, i, ap (λ x. occurs p (form_parts parts x)) same_form) in
    c.loop-kid.invariant.3 p (subst (λ xs. 0 < occurs p xs) (sym (take_all c.loop-kid.k ps past)) i_ps)

pub returns-clause-noted : goal.returns-clause-noted
returns-clause-noted g t c =
    let tb = g.T.Types.table in
    let r = c.loop-kid.invariant.2.retexts in
    Noted_then tb _ _ _ _ _ _ _ _ c.loop-kid.invariant.1 (λ p l. retexted_leads tb _ _ _ r c.args.id p l) c.loop-kid.invariant.2 c.spell_text.ensures.noted
