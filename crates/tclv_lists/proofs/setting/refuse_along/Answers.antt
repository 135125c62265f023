use Rattle.std.proofs.Common.{◌-◌, ◌∷◌, ◌∙◌, List, ℕ, [], take, drop, get_or, sym, ap}
use Rattle.std.proofs.lemmas.List.{get_or_push}
use Rattle.tclv_value.specs.View.{text_at}
use Rattle.tclv_value.specs.declared.places.At.TheVariants.{Cell}
use Rattle.tclv_lists.specs.Paths.{put_along}
use Rattle.tclv_reply.proofs.Laws.{grows_pushed, refused_after, part_kept}
use Rattle.tclv_lists.proofs.setting.refuse_along.Goals as goal

pub returns-in-Err-walk_along-clause-refused : goal.returns-in-Err-walk_along-clause-refused
returns-in-Err-walk_along-clause-refused c = λ x.
    let old = c.args.store.now in
    let mid = c.push_cell.new.store in
    let last = c.walk_along.new.store in
    let t = text_at old (Cell c.args.cell) in
    let p = c.in-Ok.ensures.pushed in
    let list = c.height-list.result in
    let path = take (c.args.to - c.args.from) (drop c.args.from mid.stack) in
    let text = ap (λ (s : List (List ℕ)). get_or s list []) p.stack ∙ get_or_push old.stack t [] list (sym c.height-list.ensures) in
    let same = ap (λ (q : List (List ℕ)). put_along t q x) (sym (part_kept old.stack mid.stack (t ∷ []) c.args.from c.args.to p.stack c.requires.order c.requires.within)) ∙ ap (λ (u : List ℕ). put_along u path x) (sym text) in
    refused_after _ _ c.in-Err-walk_along.kind old mid last (grows_pushed old mid t p) same (c.in-Err-walk_along.ensures.refuses x)
