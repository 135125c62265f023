use Rattle.std.proofs.Common.{◌≡◌, ◌<◌, ◌++◌, rules, subst, drop, take, length, sym, ap, ◌∙◌, arith}
use Rattle.std.proofs.lemmas.List.{take_rest}
use Rattle.std.proofs.lemmas.Bool.Decides.{nat_tests}
use Rattle.std.specs.Str.{chars}
use Rattle.tclv_text.specs.Escapes.{unescape}
use Rattle.tclv_text.proofs.EscapeLemmas.{Unescaped, unescaped_escape, unescaped_literal, unescaped_end}
use Rattle.tclv_text.proofs.escapes.unescape_onto.Goals as goal

pub loop-rest-preserved-then-rest-eq92 : goal.loop-rest-preserved-then-rest-eq92
loop-rest-preserved-then-rest-eq92 c =
    let rest = c.loop-rest.rest.now in
    let b = c.backslash-c.ensures in
    let some : 0 < length rest = grind (arith, nat_tests) in
    let new = c.push_char.new.self.items in
    let t = c.backslash-c.type_inv in
    let e = c.in_ok-push_char.ensures in
    subst (λ x. Unescaped (unescape (chars c.args.text.now)) c.args.out.now.items new x) (sym (take_rest rest c.backslash-c.result.1))
    (unescaped_escape new c.backslash-c.result.0 c.backslash-c.result.1 c.loop-rest.invariant c.if-rest-eq92.true some (search rules) e.ok b.char b.taken)

pub loop-rest-preserved : goal.loop-rest-preserved
loop-rest-preserved c =
    let rest = c.loop-rest.rest.now in
    let new = c.extend_from_slice.new.self.items in
    let n = c.literal_len-plain.result in
    let e = c.in_ok-extend_from_slice.ensures.items in
    let front = ap (λ k. take k rest) c.literal_len-plain.ensures.len in
    subst (λ x. Unescaped (unescape (chars c.args.text.now)) c.args.out.now.items new x) (sym (take_rest rest n))
    (subst (λ k. Unescaped (unescape (chars c.args.text.now)) c.args.out.now.items new (drop k rest)) (sym c.literal_len-plain.ensures.len)
    (unescaped_literal new c.loop-rest.invariant (e ∙ ap (λ xs. c.loop-rest.out.items ++ xs) front)))

pub returns-clause-ok : goal.returns-clause-ok
returns-clause-ok c = let e : length c.loop-rest.rest.now ≡ 0 = grind (arith, nat_tests) in unescaped_end c.loop-rest.rest.now c.loop-rest.invariant e
