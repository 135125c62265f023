use Rattle.std.proofs.Common.{◌≡◌, ◌∙◌, ℕ, List, [], length, min, get_or, refl, sym, ap}
use Rattle.std.specs.Option.{option_map}
use Rattle.std.specs.Str.{chars}
use Rattle.tclv_model.specs.Rows.{RowAnswer, Gives, and_then}
use Rattle.tclv_model.specs.Values.{list_of}
use Rattle.tclv_lists.specs.Searching.{start_of, found, wanted, searched}
use Rattle.tclv_reply.proofs.Laws.{begun, read_on, leaves_on, went_kept}
use Rattle.tclv_lists.proofs.SearchLemmas.{wanted_clipped}
use Rattle.tclv_lists.proofs.searching.push_searched.Goals as goal

pub returns : goal.returns
returns c =
    let s = c.args.store.now in
    let search = c.args.search in
    let named : List (List ℕ) → _ = λ q. option_map (λ k. get_or q k []) c.args.index in
    let l = get_or s.stack c.args.list [] in
    let p = get_or s.stack c.args.pattern [] in
    let g : List (List ℕ) → ℕ → RowAnswer = λ ts n. Gives (found search.all search.inline (wanted search p n ts)) in
    let f : List (List ℕ) → RowAnswer = λ ts. and_then (start_of (named s.stack) (length ts)) (g ts) in
    let r1 = read_on (list_of l) f (begun (searched search (named s.stack) l p) s) (list_of l) refl c.in_ok-elements.ensures in
    let ts = r1.value in
    let s1 = c.elements_of.new.store.stack in
    let s2 = c.start_of.new.store.stack in
    let all = c.all.result.now in
    let all_is : ts ≡ all = sym r1.shown ∙ sym c.all.ensures in
    let r2 = read_on (start_of (named s.stack) (length ts)) (g ts) r1.went (start_of (named s1) (length all))
    (ap (λ (q : List (List ℕ)). start_of (named q) (length ts)) (sym r1.went.same) ∙ ap (λ (us : List (List ℕ)). start_of (named s1) (length us)) all_is) c.in_ok-from.ensures in
    let n = r2.value in
    let w = went_kept r2.went c.in_ok-text.ensures.kept in
    let pattern : p ≡ chars c.bytes.result.now = ap (λ (q : List (List ℕ)). get_or q c.args.pattern []) (sym r2.went.same) ∙ sym c.in_ok-text.ensures.text ∙ sym c.bytes.ensures.text in
    let same = sym (wanted_clipped search p n ts)
    ∙ ap (λ (us : List (List ℕ)). wanted search p (min n (length us)) ts) all_is
    ∙ ap (λ (k : ℕ). wanted search p k ts) (sym r2.shown)
    ∙ ap (wanted search p c.in_ok-from.from) (sym r1.shown ∙ sym c.all-2.ensures)
    ∙ ap (λ (q : List ℕ). wanted search q c.in_ok-from.from c.all-2.result.now) pattern in
    leaves_on _ w (ap (λ es. let r : RowAnswer = Gives (found search.all search.inline es) in r) same) c.push_answer.ensures
