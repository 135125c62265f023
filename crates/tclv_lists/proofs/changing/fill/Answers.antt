use Rattle.std.proofs.Common.{◌≤◌, ◌-◌, ◌∙◌, ℕ, [], List, Err, length, get_or, ap, sym, arith}
use Rattle.tclv_text.specs.Quotes.{list_text}
use Rattle.tclv_model.specs.Rows.{RowAnswer, Gives, and_then}
use Rattle.tclv_model.specs.Values.{list_of}
use Rattle.tclv_value.specs.Stacks.{top}
use Rattle.tclv_value.specs.Lists.{replaced}
use Rattle.tclv_reply.proofs.Laws.{answered, kept_on, leaves_refused}
use Rattle.tclv_lists.proofs.changing.fill.Goals as goal

pub returns-in-Err : goal.returns-in-Err
returns-in-Err c =
    let old = c.args.store.now in
    let mid = c.list_replace.new.self in
    let n = c.args.n in
    let h = c.height-height.ensures in
    let le : n ≤ c.height-height.result = omega arith in
    let f : List (List ℕ) → RowAnswer = λ ts. Gives (list_text (replaced ts c.args.from c.args.to (top c.args.words old.stack))) in
    let list = list_of (get_or old.stack (length old.stack - n) []) in
    let same = ap (λ (k : ℕ). list_of (get_or old.stack (k - n) [])) (sym h) ∙ ap (λ (s : List (List ℕ)). list_of (get_or s (c.height-height.result - n) [])) (sym c.in-Err.ensures.kept.stack) in
    answered (and_then list f) n old _ _ _ (Err c.refuse_list-kind.result) _ h le
    (leaves_refused list f _ (kept_on (and_then list f) old mid c.in-Err.ensures.kept) same c.refuse_list-kind.ensures.grows c.refuse_list-kind.ensures.refused)
    c.settle.ensures.settles c.settle.ensures.same
