use Rattle.std.proofs.Common.{◌∙◌, ◌-◌, List, ℕ, [], length, take, drop, min, get_or, refl, sym, ap}
use Rattle.std.specs.Prelude.{ℤ, pos, ◌+ℤ◌}
use Rattle.tclv_text.specs.Quotes.{list_text}
use Rattle.tclv_model.specs.Rows.{Answer, RowAnswer, Gives, and_then}
use Rattle.tclv_model.specs.Values.{list_of, place_of, raised}
use Rattle.tclv_lists.specs.Reading.{range_of, elements_between}
use Rattle.tclv_reply.proofs.Laws.{begun, read_on, leaves_on}
use Rattle.tclv_lists.proofs.ClipLemmas.{clipped_part}
use Rattle.tclv_lists.proofs.reading.push_part.Goals as goal

pub returns : goal.returns
returns c =
    let s = c.args.store.now in
    let t : ℕ → List ℕ = λ k. get_or s.stack k [] in
    let l = t c.args.list in
    let rest : List (List ℕ) → ℤ → ℤ → RowAnswer = λ ts a b. Gives (list_text (elements_between ts a b)) in
    let third : List (List ℕ) → ℤ → RowAnswer = λ ts a. and_then (place_of (t c.args.last) (length ts)) (rest ts a) in
    let second : List (List ℕ) → RowAnswer = λ ts. and_then (place_of (t c.args.first) (length ts)) (third ts) in
    let r1 = read_on (list_of l) second (begun (range_of l (t c.args.first) (t c.args.last)) s) (list_of l) refl c.in_ok-len.ensures in
    let ts = r1.value in
    let n = c.in_ok-len.len in
    let s1 = c.list_len.new.store.stack in
    let s2 = c.clipped_place.new.store.stack in
    let s3 = c.clipped_behind.new.store.stack in
    let from = c.in_ok-from.from in
    let to = c.in_ok-to.to in
    let r2 = read_on (place_of (t c.args.first) (length ts)) (third ts) r1.went (place_of (get_or s1 c.args.first []) n)
    (ap (λ (q : List (List ℕ)). place_of (get_or q c.args.first []) (length ts)) (sym r1.went.same) ∙ ap (place_of (get_or s1 c.args.first [])) (sym r1.shown)) c.in_ok-from.ensures in
    let r3 = read_on (place_of (t c.args.last) (length ts)) (rest ts r2.value) r2.went (place_of (get_or s2 c.args.last []) n)
    (ap (λ (q : List (List ℕ)). place_of (get_or q c.args.last []) (length ts)) (sym r2.went.same) ∙ ap (place_of (get_or s2 c.args.last [])) (sym r1.shown)) c.in_ok-to.ensures in
    let part : List (List ℕ) → RowAnswer = λ us. Gives (list_text (take (to - from) (drop from us))) in
    let x = raised r2.value in
    let y = raised (r3.value +ℤ pos 1) in
    let same = ap (λ (k : ℕ). take (to - k) (drop k ts)) r2.shown ∙ ap (λ (k : ℕ). take (k - min x n) (drop (min x n) ts)) r3.shown ∙ clipped_part x y n ts r1.shown in
    let list_is = ap (λ (q : List (List ℕ)). list_of (get_or q c.args.list [])) r3.went.same ∙ r1.given in
    leaves_on (and_then (list_of (get_or s3 c.args.list [])) part) r3.went (sym (ap (λ (a : Answer (List (List ℕ))). and_then a part) list_is ∙ ap (λ (us : List (List ℕ)). Gives (list_text us)) same)) c.push_elements.ensures
