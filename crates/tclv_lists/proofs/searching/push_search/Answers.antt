use Rattle.std.proofs.Common.{◌∙◌, ◌-◌, ℕ, List, [], take, drop, get_or, refl, sym, ap}
use Rattle.std.specs.Prelude.{Option}
use Rattle.std.specs.Option.{option_map}
use Rattle.tclv_model.specs.Rows.{RowAnswer}
use Rattle.tclv_reply.specs.Options.{Options}
use Rattle.tclv_lists.specs.declared.searching.Search.{Search}
use Rattle.tclv_lists.specs.Searching.{search_options, searched, row_lsearch}
use Rattle.tclv_reply.proofs.Laws.{begun, read_on, leaves_on, went_as}
use Rattle.tclv_lists.proofs.SearchLemmas.{lsearch_row}
use Rattle.tclv_lists.proofs.searching.push_search.Goals as goal

pub returns : goal.returns
returns c =
    let s = c.args.store.now in
    let from = c.args.from in
    let to = c.args.to in
    let call = get_or s.stack c.args.call [] in
    let f : Options Search → RowAnswer = λ x. searched x.settings x.index (get_or s.stack (to - 2) []) (get_or s.stack (to - 1) []) in
    let w = went_as _ (begun (row_lsearch call (take (to - from) (drop from s.stack))) s) (lsearch_row call s.stack from to c.requires.words c.requires.within) in
    let options = search_options call (take (to - 2 - from) (drop from s.stack)) in
    let r = read_on options f w options refl c.in_ok-search.ensures in
    let mid = c.search_options.new.store.stack in
    let search = c.in_ok-search.search in
    let index = c.in_ok-search.index in
    let row : List (List ℕ) → RowAnswer = λ q. searched search (option_map (λ k. get_or q k []) index) (get_or q (to - 2) []) (get_or q (to - 1) []) in
    leaves_on (row mid) r.went
    (sym (ap row r.went.same
    ∙ ap (λ (x : Search). searched x (option_map (λ k. get_or s.stack k []) index) (get_or s.stack (to - 2) []) (get_or s.stack (to - 1) [])) r.shown.settings
    ∙ ap (λ (i : Option (List ℕ)). searched r.value.settings i (get_or s.stack (to - 2) []) (get_or s.stack (to - 1) [])) r.shown.index)) c.push_searched.ensures
