use Rattle.std.proofs.Common.{◌≡◌, ◌≢◌, ◌++◌, set, Some, sym, ap, ◌∙◌}
use Rattle.std.specs.Prelude.{OnErr, Result, Ok, Err}
use Rattle.tclv_heap.specs.Graph.{at, text_in, retexted}
use Rattle.tclv_heap.proofs.AddTextLemmas.{put_back, put_longer}
use Rattle.tclv_heap.proofs.strings.extend_text.Goals as goal

on_err_from : {T E P : Type 0} (r : Result T E) → P → OnErr r P
on_err_from (Ok x) p = tt
on_err_from (Err e) p = p

pub returns-in_err-added-clause-refused : goal.returns-in_err-added-clause-refused
returns-in_err-added-clause-refused g c =
    let text : c.index_mut-object.result.now.text ≡ Some c.in-Some.text = sym c.take.ensures.value ∙ c.in-Some.is in
    on_err_from c.from_residual.result (put_back _ _ c.index_mut-object.result.now _ _ _ c.index_mut-object.ensures.value c.index_mut-object-2.ensures.value (text ∙ ap Some (sym c.in_err-added.ensures.err)))

pub returns-clause-extended : goal.returns-clause-extended
returns-clause-extended g c n s t at_id text_n text_more =
    let slots = c.args.objects.now.slots in
    let text : c.index_mut-object.result.now.text ≡ Some c.in-Some.text = sym c.take.ensures.value ∙ c.in-Some.is in
    let other : c.more.inside.0 ≢ c.id.inside.0 = λ e. c.requires.other (sym c.more.view_is ∙ e ∙ c.id.view_is) in
    let join : c.push-added.new.self ≡ c.in-Some.text ++ c.in-Some-text.more = c.in_ok-added.ensures.ok ∙ ap (λ z. c.in-Some.text ++ z) c.bytes.ensures.text in
    let done = put_longer slots c.id.inside.0 c.more.inside.0 c.index_mut-object.result.now c.index_mut-object-2.result.now c.index.result.now c.take.new.self c.in-Some.text c.in-Some-text.more c.push-added.new.self c.take-2.new.self c.take-2.result
    c.index_mut-object.ensures.value text other c.index_mut-object-2.ensures.value c.index.ensures c.in-Some-text.is join c.take-2.ensures.after c.take-2.ensures.value
    n s t (ap (at slots) c.id.view_is ∙ at_id) text_n (ap (λ o. text_in (at slots o)) c.more.view_is ∙ text_more) in
    (done.0 ∙ ap (λ o. set slots o (Some (retexted n (s ++ t)))) c.id.view_is, done.1)
