use Rattle.std.proofs.Common.{◌≡◌, ◌∙◌, ℕ, List, [], length, get_or, refl, sym, ap, Some}
use Rattle.std.specs.Prelude.{ℤ, Option, codes}
use Rattle.std.specs.Option.{option_map_or}
use Rattle.tclv_model.specs.declared.messages.MessageId.TheVariants.{MissingSublistElement}
use Rattle.tclv_model.specs.Message.{text_of}
use Rattle.tclv_model.specs.Rows.{RowAnswer, Gives, and_then, says}
use Rattle.tclv_model.specs.Values.{list_of, place_of}
use Rattle.tclv_lists.specs.Paths.{element}
use Rattle.tclv_reply.specs.Places.{place_among}
use Rattle.tclv_lists.specs.Sorting.{key_text}
use Rattle.tclv_reply.proofs.Laws.{grows_trans, refused_after, begun, read_on, told_refused, reads_refused}
use Rattle.tclv_lists.proofs.PathLemmas.{element_among}
use Rattle.tclv_lists.proofs.GivenLemmas.{element_none}
use Rattle.tclv_lists.proofs.sorting.inner_text.Goals as goal

pub returns : goal.returns
returns c =
    let s = c.args.store.now in
    let t = get_or s.stack c.args.at [] in
    let i = get_or s.stack c.args.index [] in
    let h : Option (List ℕ) → RowAnswer = λ o. option_map_or Gives o (says MissingSublistElement i t) in
    let g : List (List ℕ) → ℤ → RowAnswer = λ ts z. h (element ts z) in
    let f : List (List ℕ) → RowAnswer = λ ts. and_then (place_of i (length ts)) (g ts) in
    let r1 = read_on (list_of t) f (begun (key_text (Some i) t) s) (list_of t) refl c.in_ok-elements.ensures in
    let ts = r1.value in
    let s1 = c.elements_of.new.store.stack in
    let all_is : ts ≡ c.all.result.now = sym r1.shown ∙ sym c.all.ensures in
    let r2 = read_on (place_of i (length ts)) (g ts) r1.went (place_of (get_or s1 c.args.index []) (length c.all.result.now))
    (ap (λ (q : List (List ℕ)). place_of (get_or q c.args.index []) (length ts)) (sym r1.went.same) ∙ ap (λ (us : List (List ℕ)). place_of (get_or s1 c.args.index []) (length us)) all_is) c.in_ok-k.ensures in
    let none = element_none ts r2.value (ap (λ (us : List (List ℕ)). place_among (length us) r2.value) all_is ∙ sym r2.shown ∙ c.in-None.is) in
    let mid = c.place_among.new.store in
    let new = c.refuse_missing.new.store in
    let told = told_refused (says {A = List ℕ} MissingSublistElement (get_or mid.stack c.args.index []) (get_or mid.stack c.args.at [])) (text_of MissingSublistElement (get_or mid.stack c.args.index []) (get_or mid.stack c.args.at [])) (codes "NONE") c.refuse_missing.result mid.stack new.stack refl c.refuse_missing.ensures.tells in
    reads_refused (grows_trans s mid new r2.went.grows c.refuse_missing.ensures.grows)
    (refused_after _ _ c.refuse_missing.result s mid new r2.went.grows (r2.went.is ∙ ap h none ∙ ap (λ (q : List (List ℕ)). let r : RowAnswer = says MissingSublistElement (get_or q c.args.index []) (get_or q c.args.at []) in r) (sym r2.went.same)) told)

pub returns-in-Some : goal.returns-in-Some
returns-in-Some c =
    let s = c.args.store.now in
    let t = get_or s.stack c.args.at [] in
    let i = get_or s.stack c.args.index [] in
    let h : Option (List ℕ) → RowAnswer = λ o. option_map_or Gives o (says MissingSublistElement i t) in
    let g : List (List ℕ) → ℤ → RowAnswer = λ ts z. h (element ts z) in
    let f : List (List ℕ) → RowAnswer = λ ts. and_then (place_of i (length ts)) (g ts) in
    let r1 = read_on (list_of t) f (begun (key_text (Some i) t) s) (list_of t) refl c.in_ok-elements.ensures in
    let ts = r1.value in
    let s1 = c.elements_of.new.store.stack in
    let all_is : ts ≡ c.all.result.now = sym r1.shown ∙ sym c.all.ensures in
    let r2 = read_on (place_of i (length ts)) (g ts) r1.went (place_of (get_or s1 c.args.index []) (length c.all.result.now))
    (ap (λ (q : List (List ℕ)). place_of (get_or q c.args.index []) (length ts)) (sym r1.went.same) ∙ ap (λ (us : List (List ℕ)). place_of (get_or s1 c.args.index []) (length us)) all_is) c.in_ok-k.ensures in
    let k = c.in-Some.k in
    let there = element_among ts r2.value k (ap (λ (us : List (List ℕ)). place_among (length us) r2.value) all_is ∙ sym r2.shown ∙ c.in-Some.is) in
    let text : c.in_ok-text-in-Some.text ≡ get_or ts k [] = c.in_ok-text-in-Some.ensures ∙ ap (λ (us : List (List ℕ)). get_or us k []) (c.all-in-Some.ensures ∙ r1.shown) in
    record {
      grows = r2.went.grows;
      kept = r2.went.same;
      gives = record { read = get_or ts k []; given = r2.went.is ∙ ap h there.0; shown = text };
      refuses = tt;
    }
