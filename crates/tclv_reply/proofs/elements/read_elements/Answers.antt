use Rattle.std.proofs.Common.{rules, arith, subst, ◌≡◌, ◌<◌, ◌≤◌, ◌++◌, ℕ, List}
use Rattle.std.specs.Prelude.{IsOkAnd, option_to_list, slice_get}
use Rattle.tclv_text.specs.Elements.{elements}
use Rattle.tclv_value.specs.View.{text_at}
use Rattle.tclv_reply.proofs.ReplyLemmas.{keeps_trans, text_kept}
use Rattle.tclv_reply.proofs.ListLemmas.{first_none, first_more, first_all}
use Rattle.tclv_reply.proofs.elements.read_elements.Goals as goal

pub loop-k-init : goal.loop-k-init
loop-k-init c = record {
  first = rw c.new-items.ensures.items (first_none (text_at c.args.store.now c.args.list) c.in_ok-len.len c.in_ok-len.ensures.len);
  kept = c.in_ok-len.ensures.kept;
}

pub loop-k-preserved : goal.loop-k-preserved
loop-k-preserved c =
    let old = c.args.store.now in
    let cur = c.loop-k.store in
    let k = c.loop-k.k in
    let items = c.loop-k.items.items in
    let new = c.read_element.new.items.items in
    let inside : k < c.in_ok-len.len = search rules in
    let P : List ℕ → Type 0 = λ t. IsOkAnd (elements t) (λ ts. new ≡ items ++ option_to_list (slice_get ts k)) in
    record {
      first = first_more (text_at old c.args.list) c.in_ok-len.len k items new c.loop-k.invariant.first inside (subst P (text_kept old cur c.loop-k.invariant.kept c.args.list) c.in_ok-read_element.ensures.added);
      kept = keeps_trans old cur c.read_element.new.store c.loop-k.invariant.kept c.in_ok-read_element.ensures.kept;
    }

pub returns-clause-elements : goal.returns-clause-elements
returns-clause-elements c =
    let ended : c.in_ok-len.len ≤ c.loop-k.k = search rules in
    first_all (text_at c.args.store.now c.args.list) c.in_ok-len.len c.loop-k.k c.loop-k.items.items c.loop-k.invariant.first ended
