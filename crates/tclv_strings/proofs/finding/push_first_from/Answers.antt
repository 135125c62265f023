use Rattle.std.proofs.Common.{◌∙◌, List, ℕ, [], length, get_or, sym, ap}
use Rattle.std.specs.Prelude.{ℤ}
use Rattle.tclv_model.specs.Rows.{RowAnswer, Gives}
use Rattle.tclv_model.specs.Values.{place_of, raised}
use Rattle.tclv_strings.specs.Finding.{first_from, place_text, found_first}
use Rattle.tclv_reply.proofs.Laws.{begun, read_on, leaves_on, went_kept}
use Rattle.tclv_strings.proofs.FindLemmas.{first_clipped}
use Rattle.tclv_strings.proofs.finding.push_first_from.Goals as goal

pub returns : goal.returns
returns c =
    let s = c.args.store.now in
    let t : ℕ → List ℕ = λ k. get_or s.stack k [] in
    let needle = t c.args.needle in
    let text = t c.args.text in
    let start = c.args.start in
    let n = length text in
    let f : ℤ → RowAnswer = λ z. Gives (place_text (first_from needle (raised z) text)) in
    let w = went_kept (begun (found_first needle text (t start)) s) c.text_len.ensures.kept in
    let len = c.in_ok-len.len in
    let s1 = c.text_len.new.store.stack in
    let s2 = c.clipped_place.new.store.stack in
    let from = c.in_ok-from.from in
    let r = read_on (place_of (t start) n) f w (place_of (get_or s1 start []) len)
    (ap (λ (q : List (List ℕ)). place_of (get_or q start []) n) (sym w.same) ∙ ap (place_of (get_or s1 start [])) (sym c.in_ok-len.ensures.len)) c.in_ok-from.ensures in
    let g : ℕ → List (List ℕ) → RowAnswer = λ k q. Gives (place_text (first_from (get_or q c.args.needle []) k (get_or q c.args.text []))) in
    let same = ap (λ (q : List (List ℕ)). g from q) r.went.same ∙ ap (λ (k : ℕ). g k s.stack) r.shown ∙ ap (λ x. Gives (place_text x)) (first_clipped needle (raised r.value) len text c.in_ok-len.ensures.len) in
    leaves_on (g from s2) r.went (sym same) c.push_first.ensures
