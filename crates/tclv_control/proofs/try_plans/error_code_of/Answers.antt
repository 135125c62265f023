use Rattle.std.proofs.Common.{rules, sym, ap, ◌∙◌, ◌≡◌, ◌<◌, ◌≤◌, true, false, length}
use Rattle.std.specs.Prelude.{codes}
use Rattle.std.specs.Str.{bytes_eq}
use Rattle.tclv_control.proofs.TryLemmas.{if_ok-as, code_here, code_next, code_none}
use Rattle.tclv_control.proofs.try_plans.error_code_of.Goals as goal

pub returns-then-is_ascii_word : goal.returns-then-is_ascii_word
returns-then-is_ascii_word c =
    let inside : c.loop-k.k < length c.args.options.now = search rules in
    let on : c.is_ascii_word.result ≡ true = search (rules, c.if-is_ascii_word.true) in
    let is = sym (ap (λ t. bytes_eq t (codes "-errorcode")) c.bytes.ensures.text) ∙ sym c.is_ascii_word.ensures ∙ on in
    if_ok-as c.copy.result _ _ c.copy.ensures (code_here c.args.options.now c.loop-k.k c.pair_at-pair.result.now inside c.pair_at-pair.ensures is ∙ c.loop-k.invariant)

pub loop-k-preserved : goal.loop-k-preserved
loop-k-preserved c =
    let inside : c.loop-k.k < length c.args.options.now = search rules in
    let off : c.is_ascii_word.result ≡ false = search (rules, c.if-is_ascii_word.false) in
    let is = sym (ap (λ t. bytes_eq t (codes "-errorcode")) c.bytes.ensures.text) ∙ sym c.is_ascii_word.ensures ∙ off in
    code_next c.args.options.now c.loop-k.k c.pair_at-pair.result.now inside c.pair_at-pair.ensures is ∙ c.loop-k.invariant

pub returns : goal.returns
returns c =
    let ended : length c.args.options.now ≤ c.loop-k.k = search rules in
    if_ok-as c.no_code.result _ _ c.no_code.ensures (code_none c.args.options.now c.loop-k.k ended ∙ c.loop-k.invariant)
