use Rattle.std.proofs.Common.{◌≡◌, ◌+◌, drop, ap, ◌∙◌, arith, not, [], ◌∷◌, ◌++◌, length}
use Rattle.std.proofs.lemmas.Bool.{cond-true}
use Rattle.std.proofs.lemmas.List.{take_rest, length-drop}
use Rattle.std.specs.List.{prefix_len}
use Rattle.tclv_text.specs.Characters.{is_space}
use Rattle.tclv_text.specs.Elements.{pieces}
use Rattle.tclv_text.proofs.ListLemmas.{split_begins, split_turn, split_ends, split_fault, no_space_behind, order_push, order_on}
use Rattle.tclv_text.proofs.lists.split_bytes.Goals as goal

pub loop-at-init : goal.loop-at-init
loop-at-init c =
    let t = c.args.text.now in
    let n = c.space_len-at.result in
    let e : n ≡ 0 + prefix_len is_space (drop 0 t) = omega (arith, c.space_len-at.ensures.len) in
    record {
      rest = split_begins t n c.new-items.result.items c.space_len-at.ensures.len c.new-items.ensures.items;
      order = rw c.new-items.ensures.items (omega arith);
      begins = no_space_behind t 0 n e;
      inside = c.space_len-at.ensures.within;
    }

pub returns-in-Err : goal.returns-in-Err
returns-in-Err c =
    let t = c.args.text.now in
    split_fault t c.loop-at.at c.in-Err.fault _ (pieces t) c.loop-at-test.true (c.loop-at.invariant.begins c.loop-at-test.true) c.loop-at.invariant.rest c.in-Err.ensures

pub loop-at-preserved : goal.loop-at-preserved
loop-at-preserved c =
    let t = c.args.text.now in
    let at = c.loop-at.at in
    let next = c.in-Ok.found.1 in
    let k = c.in-Ok.ensures in
    let len : c.space_len.result ≡ prefix_len is_space (drop next t) = c.space_len.ensures.len ∙ ap (prefix_len is_space) (take_rest t next) in
    let n : next + c.space_len.result ≡ next + prefix_len is_space (drop next t) = ap (λ k. next + k) len in
    let pushed : c.push.new.self.items ≡ c.loop-at.items.items ++ c.in-Ok.found.0 ∷ [] =
    c.push.ensures.items ∙ cond-true _ _ _ (c.is_err.ensures.negation ∙ ap not c.if-is_err.false) in
    let short = simp (take_rest, length-drop) at c.space_len.ensures.within in
    record {
      rest = split_turn t at next (next + c.space_len.result) c.loop-at.items.items c.push.new.self.items c.in-Ok.found.0 (pieces t) c.loop-at-test.true (c.loop-at.invariant.begins c.loop-at-test.true) k n pushed c.loop-at.invariant.rest;
      order = rw pushed (order_push 0 at (next + c.space_len.result) c.loop-at.items.items c.in-Ok.found.0 c.loop-at.invariant.order k.0.begins k.0.order (omega (arith, k.0.ends)));
      begins = no_space_behind t next (next + c.space_len.result) n;
      inside = omega arith;
    }

pub returns : goal.returns
returns c =
    (order_on 0 c.loop-at.at (length c.args.text.now) c.loop-at.items.items c.loop-at.invariant.order c.loop-at.invariant.inside, split_ends c.args.text.now c.loop-at.at c.loop-at.items.items (pieces c.args.text.now) c.loop-at-test.false c.loop-at.invariant.rest)
