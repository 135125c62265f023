use Rattle.std.proofs.Common.{◌∙◌, List, ℕ, [], length, get_or, sym, ap}
use Rattle.std.specs.Prelude.{ℤ, pos, ◌+ℤ◌}
use Rattle.tclv_model.specs.Rows.{RowAnswer, Gives, and_then}
use Rattle.tclv_model.specs.Values.{place_of, raised}
use Rattle.tclv_strings.specs.Places.{text_between}
use Rattle.tclv_strings.specs.Reading.{part_of, between_places}
use Rattle.tclv_reply.proofs.Laws.{begun, read_on, leaves_on, went_kept}
use Rattle.tclv_strings.proofs.PartLemmas.{clipped_as}
use Rattle.tclv_strings.proofs.reading.push_between.Goals as goal

pub returns : goal.returns
returns c =
    let s = c.args.store.now in
    let t : ℕ → List ℕ = λ k. get_or s.stack k [] in
    let text = t c.args.text in
    let first = c.args.first in
    let last = c.args.last in
    let n = length text in
    let third : ℤ → ℤ → RowAnswer = λ a b. Gives (between_places text a b) in
    let second : ℤ → RowAnswer = λ a. and_then (place_of (t last) n) (third a) in
    let w = went_kept (begun (part_of text (t first) (t last)) s) c.text_len.ensures.kept in
    let len = c.in_ok-len.len in
    let known = c.in_ok-len.ensures.len in
    let s1 = c.text_len.new.store.stack in
    let s2 = c.clipped_place.new.store.stack in
    let s3 = c.clipped_behind.new.store.stack in
    let from = c.in_ok-from.from in
    let to = c.in_ok-to.to in
    let r2 = read_on (place_of (t first) n) second w (place_of (get_or s1 first []) len)
    (ap (λ (q : List (List ℕ)). place_of (get_or q first []) n) (sym w.same) ∙ ap (place_of (get_or s1 first [])) (sym known)) c.in_ok-from.ensures in
    let r3 = read_on (place_of (t last) n) (third r2.value) r2.went (place_of (get_or s2 last []) len)
    (ap (λ (q : List (List ℕ)). place_of (get_or q last []) n) (sym r2.went.same) ∙ ap (place_of (get_or s2 last [])) (sym known)) c.in_ok-to.ensures in
    let top = c.max.result in
    let g : List (List ℕ) → RowAnswer = λ q. Gives (text_between from top (get_or q c.args.text [])) in
    let same = ap g r3.went.same ∙ ap (λ (u : List ℕ). Gives u) (clipped_as (raised r2.value) (raised (r3.value +ℤ pos 1)) len from to top text known r2.shown r3.shown c.max.ensures) in
    leaves_on (g s3) r3.went (sym same) c.push_part.ensures
