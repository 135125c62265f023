use Rattle.std.proofs.Common.{◌∷◌, ◌∙◌, List, ℕ, [], get_or, sym, ap}
use Rattle.std.specs.Prelude.{codes}
use Rattle.std.proofs.lemmas.List.{get_or_push}
use Rattle.tclv_model.specs.Rows.{Variable}
use Rattle.tclv_reply.specs.Replies.{variable_of}
use Rattle.tclv_lists.specs.Variables.{lpop_of}
use Rattle.tclv_reply.proofs.Laws.{grows_pushed, word_kept}
use Rattle.tclv_lists.proofs.StoredLemmas.{stores_after}
use Rattle.tclv_lists.proofs.AlongLemmas.{variable_kept}
use Rattle.tclv_lists.proofs.setting.pop_last.Goals as goal

pub returns : goal.returns
returns c =
    let old = c.args.store.now in
    let mid = c.push_ascii.new.store in
    let p = c.in_ok-push_ascii.ensures.pushed in
    let last = codes "end" in
    let at = c.height-index.result in
    let name = get_or old.stack c.args.name [] in
    let index = ap (λ (s : List (List ℕ)). get_or s at []) p.stack ∙ get_or_push old.stack last [] at (sym c.height-index.ensures) in
    let named = word_kept old.stack mid.stack (last ∷ []) c.args.name p.stack c.requires.name in
    let same = ap (λ (v : Variable). lpop_of name last v) (variable_kept c.args.variable old mid p.cells)
    ∙ ap (λ (i : List ℕ). lpop_of name i (variable_of c.args.variable mid)) (sym index)
    ∙ ap (λ (x : List ℕ). lpop_of x (get_or mid.stack at []) (variable_of c.args.variable mid)) (sym named) in
    stores_after _ _ c.args.variable old mid c.pop_at.new.store c.pop_at.result (grows_pushed old mid last p) same c.pop_at.ensures
