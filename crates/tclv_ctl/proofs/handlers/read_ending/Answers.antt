use Rattle.std.proofs.Common.{◌≡◌, ◌+◌, ◌-◌, ◌*◌, ◌/◌, ◌%◌, ◌≤◌, ◌∙◌, refl, ap, sym, subst, List, ℕ, [], length, drop, get_or, Some, None, true, false, arith}
use Rattle.std.specs.Prelude.{codes}
use Rattle.std.specs.Str.{bytes_eq}
use Rattle.tclv_model.specs.declared.usages.Usage.TheVariants.{Try}
use Rattle.tclv_model.specs.Usages.{usage_of}
use Rattle.tclv_model.specs.Rows.{wrong_count}
use Rattle.tclv_reply.specs.Replies.{Refused}
use Rattle.tclv_reply.proofs.Laws.{grows_none, grows_kept}
use Rattle.tclv_ctl.specs.Switching.{Text}
use Rattle.tclv_ctl.specs.Handlers.{ending}
use Rattle.tclv_ctl.proofs.EndingLemmas.{ending_left, no_ending, two_left, odd_left}
use Rattle.tclv_ctl.proofs.ReadLemmas.{reads_after, reads_count}
use Rattle.tclv_ctl.proofs.handlers.read_ending.Goals as goal

pub returns-then-left-eq0-clause-reads : goal.returns-then-left-eq0-clause-reads
returns-then-left-eq0-clause-reads c =
    let s = c.args.store.now in
    let call = get_or s.stack c.args.call [] in
    let from = c.args.from in
    let left = (c.height-height.result - from) % 4 in
    let k = (length s.stack - from) / 4 in
    let parts : length s.stack - from ≡ 4 * k + left = omega (arith, c.height-height.ensures) in
    record {
      grows = grows_none s;
      kept = refl;
      gives = record { read = None; given = ending_left call s.stack from left k c.requires.place parts ∙ no_ending call s.stack left (omega (arith, c.if-left-eq0.true)); shown = refl };
      refuses = tt;
    }

pub returns-then-left-ne2-clause-reads : goal.returns-then-left-ne2-clause-reads
returns-then-left-ne2-clause-reads c =
    let s = c.args.store.now in
    let call = get_or s.stack c.args.call [] in
    let from = c.args.from in
    let left = (c.height-height.result - from) % 4 in
    let k = (length s.stack - from) / 4 in
    let parts : length s.stack - from ≡ 4 * k + left = omega (arith, c.height-height.ensures) in
    let short : left ≤ 3 = omega arith in
    let there : left ≤ length s.stack = omega (arith, parts) in
    let row = ending_left call s.stack from left k c.requires.place parts ∙ odd_left call s.stack left there short (λ z. omega (arith, z, c.if-left-eq0.false)) (λ z. omega (arith, z, c.if-left-ne2.true)) in
    reads_count (ending call (drop from s.stack)) _ call (usage_of Try) s c.refuse_count.new.store c.refuse_count.result row c.refuse_count.ensures.grows
    c.refuse_count.ensures.refused

pub returns-then-branch-clause-reads : goal.returns-then-branch-clause-reads
returns-then-branch-clause-reads c =
    let s = c.args.store.now in
    let call = get_or s.stack c.args.call [] in
    let from = c.args.from in
    let left = (c.height-height.result - from) % 4 in
    let k = (length s.stack - from) / 4 in
    let parts : length s.stack - from ≡ 4 * k + left = omega (arith, c.height-height.ensures) in
    let two : left ≡ 2 = omega (arith, c.if-left-ne2.false) in
    let long : 2 ≤ length s.stack = omega (arith, two, parts) in
    let kept = c.in_ok-word_is.ensures.kept in
    let is : bytes_eq (get_or s.stack (length s.stack - 2) []) (codes "finally") ≡ true = ap (λ (h : ℕ). bytes_eq (get_or s.stack (h - 2) []) (codes "finally")) (sym c.height-height.ensures) ∙ sym c.in_ok-word_is.ensures.is ∙ c.if-branch.true in
    record {
      grows = grows_kept s c.word_is.new.store kept;
      kept = kept.stack;
      gives = record {
        read = Some (get_or s.stack (length s.stack - 1) []);
        given = ending_left call s.stack from left k c.requires.place parts ∙ two_left call s.stack left true two long is;
        shown = ap (λ (h : ℕ). Some (get_or s.stack (h - 1) [])) (sym c.height-height.ensures);
      };
      refuses = tt;
    }

pub returns-else-branch-clause-reads : goal.returns-else-branch-clause-reads
returns-else-branch-clause-reads c =
    let s = c.args.store.now in
    let mid = c.word_is.new.store in
    let new = c.refuse_count-else-branch.new.store in
    let kind = c.refuse_count-else-branch.result in
    let call = get_or s.stack c.args.call [] in
    let from = c.args.from in
    let left = (c.height-height.result - from) % 4 in
    let k = (length s.stack - from) / 4 in
    let parts : length s.stack - from ≡ 4 * k + left = omega (arith, c.height-height.ensures) in
    let two : left ≡ 2 = omega (arith, c.if-left-ne2.false) in
    let long : 2 ≤ length s.stack = omega (arith, two, parts) in
    let kept = c.in_ok-word_is.ensures.kept in
    let is : bytes_eq (get_or s.stack (length s.stack - 2) []) (codes "finally") ≡ false = ap (λ (h : ℕ). bytes_eq (get_or s.stack (h - 2) []) (codes "finally")) (sym c.height-height.ensures) ∙ sym c.in_ok-word_is.ensures.is ∙ c.if-branch.false in
    let row = ending_left call s.stack from left k c.requires.place parts ∙ two_left call s.stack left false two long is in
    reads_after (ending call (drop from s.stack)) (wrong_count (get_or mid.stack c.args.call []) (usage_of Try)) _ s mid new _ kept (row ∙ ap (λ (q : List Text). wrong_count (get_or q c.args.call []) (usage_of Try)) (sym kept.stack))
    (reads_count (wrong_count (get_or mid.stack c.args.call []) (usage_of Try)) _ (get_or mid.stack c.args.call []) (usage_of Try) mid new kind refl c.refuse_count-else-branch.ensures.grows
    c.refuse_count-else-branch.ensures.refused)
