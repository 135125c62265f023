use Rattle.std.proofs.Common.{rules, arith, ◌≡◌, ◌<◌, ◌-◌, ◌+◌, ◌==◌, true, if◌then◌else◌, drop, length, ap, ◌∙◌, sym, Ok}
use Rattle.std.proofs.lemmas.Bool.{eqb-true}
use Rattle.std.proofs.lemmas.Grind.{common_steps}
use Rattle.tclv_exprp.specs.Fronts.{first, blanks}
use Rattle.tclv_exprp.specs.ExpressionGrammar.{readers, binary, steps, choice, otherwise, behind_by, behind_blanks, behind_mark, chained, arguments, named}
use Rattle.tclv_exprp.specs.Outcomes.{and_then}
use Rattle.tclv_exprp.proofs.AfterLemmas.{after_after, after_none}
use Rattle.tclv_exprp.proofs.ChainLemmas.{rows_are, arguments_are, past_operator, past_mark}
use Rattle.tclv_exprp.proofs.NestingLemmas.{reads_fails, operand_none, power_none, expr_none, operand_in, power_in, expr_in, binary_fails, binary_next}
use Rattle.tclv_exprp.proofs.StartLemmas.{start_variable, start_script}
use Rattle.tclv_exprp.proofs.expressions.ExprReader.+reader.Goals as goal

pub binary-returns-in_err-tree-clause-reads : goal.binary-returns-in_err-tree-clause-reads
unfolding binary
binary-returns-in_err-tree-clause-reads t c =
    let r = reads_fails ((readers c.args.self.now.leaves.total c.args.self.now.room).1 c.args.cursor.now) (binary (readers c.args.self.now.leaves.total c.args.self.now.room).1 c.args.top c.args.cursor.now) c.in_err-tree.field-0.0 _ c.power.new.cursor (λ e h. binary_fails (readers c.args.self.now.leaves.total c.args.self.now.room).1 0 c.args.top c.args.cursor.now e (omega arith) h) c.in_err-tree.ensures.reads in
    first_of (search rules, grind (arith, common_steps, after_after, after_none))

pub binary-loop-level-init : goal.binary-loop-level-init
unfolding binary
binary-loop-level-init t c =
    record { reads = first_of (search rules, grind (arith, common_steps, after_after, after_none)); left = omega (arith, c.in_ok-tree.ensures.left) }

pub binary-returns-in_err-steps-clause-reads : goal.binary-returns-in_err-steps-clause-reads
binary-returns-in_err-steps-clause-reads t c =
    let k = c.loop-level.level in
    let p = (readers c.args.self.now.leaves.total c.args.self.now.room).1 in
    let r = reads_fails (steps (binary p k) k c.loop-level.cursor) (binary p c.args.top c.args.cursor.now) c.in_err-steps.field-0.0 _ c.steps.new.cursor
    (λ e h. binary_fails p (k + 1) c.args.top c.args.cursor.now e (omega arith) (binary_next p k (k + 1) c.args.cursor.now c.loop-level.cursor c.loop-level.tree (omega arith) c.loop-level.invariant.reads ∙ ap (λ o. and_then o (λ ys v. Ok (chained c.loop-level.tree ys, v))) h))
    c.in_err-steps.ensures.reads in
    first_of (search rules, grind (arith, common_steps, after_after, after_none))

pub binary-loop-level-preserved : goal.binary-loop-level-preserved
binary-loop-level-preserved t c =
    let k = c.loop-level.level in
    let e = binary_next (readers c.args.self.now.leaves.total c.args.self.now.room).1 k (k + 1) c.args.cursor.now c.loop-level.cursor c.loop-level.tree (omega arith) c.loop-level.invariant.reads in
    record { reads = first_of (search rules, grind (arith, common_steps, after_after, after_none)); left = omega (arith, c.in_ok-steps.ensures.left) }

pub expr-returns-then-self-eq0-clause-reads : goal.expr-returns-then-self-eq0-clause-reads
expr-returns-then-self-eq0-clause-reads t c =
    let e = expr_none c.args.self.now.leaves.total c.args.self.now.room c.args.cursor.now (omega arith) in
    first_of (search rules, grind (arith, common_steps, after_after, after_none))

pub expr-returns-in_err-test-clause-reads : goal.expr-returns-in_err-test-clause-reads
unfolding choice otherwise behind_mark
expr-returns-in_err-test-clause-reads t c =
    let e = expr_in c.args.self.now.leaves.total c.args.self.now.room (c.args.self.now.room - 1) c.args.cursor.now (omega arith) in
    first_of (search rules, grind (arith, common_steps, after_after, after_none))

pub expr-returns-then-not-comes-clause-reads : goal.expr-returns-then-not-comes-clause-reads
unfolding choice otherwise behind_mark
expr-returns-then-not-comes-clause-reads t c =
    let e = expr_in c.args.self.now.leaves.total c.args.self.now.room (c.args.self.now.room - 1) c.args.cursor.now (omega arith) in
    first_of (search rules, grind (arith, common_steps, after_after, after_none))

pub expr-returns-in_err-yes-clause-reads : goal.expr-returns-in_err-yes-clause-reads
unfolding choice otherwise behind_mark
expr-returns-in_err-yes-clause-reads t c =
    let e = expr_in c.args.self.now.leaves.total c.args.self.now.room (c.args.self.now.room - 1) c.args.cursor.now (omega arith) in
    first_of (search rules, grind (arith, common_steps, after_after, after_none))

pub expr-returns-then-not-comes-2-clause-reads : goal.expr-returns-then-not-comes-2-clause-reads
unfolding choice otherwise behind_mark
expr-returns-then-not-comes-2-clause-reads t c =
    let e = expr_in c.args.self.now.leaves.total c.args.self.now.room (c.args.self.now.room - 1) c.args.cursor.now (omega arith) in
    first_of (search rules, grind (arith, common_steps, after_after, after_none))

pub expr-returns-in_err-no-clause-reads : goal.expr-returns-in_err-no-clause-reads
unfolding choice otherwise behind_mark
expr-returns-in_err-no-clause-reads t c =
    let e = expr_in c.args.self.now.leaves.total c.args.self.now.room (c.args.self.now.room - 1) c.args.cursor.now (omega arith) in
    first_of (search rules, grind (arith, common_steps, after_after, after_none))

pub expr-returns-clause-reads : goal.expr-returns-clause-reads
unfolding choice otherwise behind_mark
expr-returns-clause-reads t c =
    let e = expr_in c.args.self.now.leaves.total c.args.self.now.room (c.args.self.now.room - 1) c.args.cursor.now (omega arith) in
    first_of (search rules, grind (arith, common_steps, after_after, after_none))

pub operand-returns-then-self-eq0-clause-reads : goal.operand-returns-then-self-eq0-clause-reads
operand-returns-then-self-eq0-clause-reads t c =
    let e = operand_none c.args.self.now.leaves.total c.args.self.now.room c.args.cursor.now (omega arith) in
    first_of (search rules, grind (arith, common_steps, after_after, after_none))

pub operand-variable-requires-clause-sign : goal.operand-variable-requires-clause-sign
operand-variable-requires-clause-sign t c =
    start_variable c.blanks.new.cursor (sym c.start.ensures ∙ c.in-Variable.is)

pub operand-bracketed-requires-clause-sign : goal.operand-bracketed-requires-clause-sign
operand-bracketed-requires-clause-sign t c =
    start_script c.blanks.new.cursor (sym c.start.ensures ∙ c.in-Script.is)

pub operand-returns-in_err-tree-in-Unary-clause-reads : goal.operand-returns-in_err-tree-in-Unary-clause-reads
operand-returns-in_err-tree-in-Unary-clause-reads t c =
    let e = operand_in c.args.self.now.leaves.total c.args.self.now.room (c.args.self.now.room - 1) c.args.cursor.now (omega arith) in
    first_of (search rules, grind (arith, common_steps, after_after, after_none))

pub operand-returns-in_err-tree-in-Paren-clause-reads : goal.operand-returns-in_err-tree-in-Paren-clause-reads
operand-returns-in_err-tree-in-Paren-clause-reads t c =
    let e = operand_in c.args.self.now.leaves.total c.args.self.now.room (c.args.self.now.room - 1) c.args.cursor.now (omega arith) in
    first_of (search rules, grind (arith, common_steps, after_after, after_none))

pub operand-returns-in-Number-clause-reads : goal.operand-returns-in-Number-clause-reads
operand-returns-in-Number-clause-reads t c =
    let e = operand_in c.args.self.now.leaves.total c.args.self.now.room (c.args.self.now.room - 1) c.args.cursor.now (omega arith) in
    first_of (search rules, grind (arith, common_steps, after_after, after_none))

pub operand-returns-in-Variable-clause-reads : goal.operand-returns-in-Variable-clause-reads
operand-returns-in-Variable-clause-reads t c =
    let e = operand_in c.args.self.now.leaves.total c.args.self.now.room (c.args.self.now.room - 1) c.args.cursor.now (omega arith) in
    first_of (search rules, grind (arith, common_steps, after_after, after_none))

pub operand-returns-in-Quoted-clause-reads : goal.operand-returns-in-Quoted-clause-reads
operand-returns-in-Quoted-clause-reads t c =
    let e = operand_in c.args.self.now.leaves.total c.args.self.now.room (c.args.self.now.room - 1) c.args.cursor.now (omega arith) in
    first_of (search rules, grind (arith, common_steps, after_after, after_none))

pub operand-returns-in-Braced-clause-reads : goal.operand-returns-in-Braced-clause-reads
operand-returns-in-Braced-clause-reads t c =
    let e = operand_in c.args.self.now.leaves.total c.args.self.now.room (c.args.self.now.room - 1) c.args.cursor.now (omega arith) in
    first_of (search rules, grind (arith, common_steps, after_after, after_none))

pub operand-returns-in-Script-clause-reads : goal.operand-returns-in-Script-clause-reads
operand-returns-in-Script-clause-reads t c =
    let e = operand_in c.args.self.now.leaves.total c.args.self.now.room (c.args.self.now.room - 1) c.args.cursor.now (omega arith) in
    first_of (search rules, grind (arith, common_steps, after_after, after_none))

pub operand-returns-in-Name-clause-reads : goal.operand-returns-in-Name-clause-reads
operand-returns-in-Name-clause-reads t c =
    let e = operand_in c.args.self.now.leaves.total c.args.self.now.room (c.args.self.now.room - 1) c.args.cursor.now (omega arith) in
    first_of (search rules, grind (arith, common_steps, after_after, after_none))

pub operand-returns-in-Other-clause-reads : goal.operand-returns-in-Other-clause-reads
operand-returns-in-Other-clause-reads t c =
    let e = operand_in c.args.self.now.leaves.total c.args.self.now.room (c.args.self.now.room - 1) c.args.cursor.now (omega arith) in
    first_of (search rules, grind (arith, common_steps, after_after, after_none))

pub operand-returns-in_ok-unary-in-Unary-clause-reads : goal.operand-returns-in_ok-unary-in-Unary-clause-reads
operand-returns-in_ok-unary-in-Unary-clause-reads t c =
    let e = operand_in c.args.self.now.leaves.total c.args.self.now.room (c.args.self.now.room - 1) c.args.cursor.now (omega arith) in
    first_of (search rules, grind (arith, common_steps, after_after, after_none))

pub operand-returns-in_ok-tree-in-Paren-clause-reads : goal.operand-returns-in_ok-tree-in-Paren-clause-reads
operand-returns-in_ok-tree-in-Paren-clause-reads t c =
    let e = operand_in c.args.self.now.leaves.total c.args.self.now.room (c.args.self.now.room - 1) c.args.cursor.now (omega arith) in
    first_of (search rules, grind (arith, common_steps, after_after, after_none))

pub power-returns-then-self-eq0-clause-reads : goal.power-returns-then-self-eq0-clause-reads
power-returns-then-self-eq0-clause-reads t c =
    let e = power_none c.args.self.now.leaves.total c.args.self.now.room c.args.cursor.now (omega arith) in
    first_of (search rules, grind (arith, common_steps, after_after, after_none))

pub power-returns-in_err-base-clause-reads : goal.power-returns-in_err-base-clause-reads
unfolding behind_blanks
power-returns-in_err-base-clause-reads t c =
    let e = power_in c.args.self.now.leaves.total c.args.self.now.room (c.args.self.now.room - 1) c.args.cursor.now (omega arith) in
    first_of (search rules, grind (arith, common_steps, after_after, after_none))

pub power-returns-in_err-right-in-Some-clause-reads : goal.power-returns-in_err-right-in-Some-clause-reads
unfolding behind_blanks
power-returns-in_err-right-in-Some-clause-reads t c =
    let e = power_in c.args.self.now.leaves.total c.args.self.now.room (c.args.self.now.room - 1) c.args.cursor.now (omega arith) in
    first_of (search rules, grind (arith, common_steps, after_after, after_none))

pub power-returns-in-None-clause-reads : goal.power-returns-in-None-clause-reads
unfolding behind_blanks
power-returns-in-None-clause-reads t c =
    let e = power_in c.args.self.now.leaves.total c.args.self.now.room (c.args.self.now.room - 1) c.args.cursor.now (omega arith) in
    first_of (search rules, grind (arith, common_steps, after_after, after_none))

pub power-returns-in_ok-lone-in-Some-clause-reads : goal.power-returns-in_ok-lone-in-Some-clause-reads
unfolding behind_blanks
power-returns-in_ok-lone-in-Some-clause-reads t c =
    let e = power_in c.args.self.now.leaves.total c.args.self.now.room (c.args.self.now.room - 1) c.args.cursor.now (omega arith) in
    first_of (search rules, grind (arith, common_steps, after_after, after_none))

pub steps-returns-in_err-right-clause-reads : goal.steps-returns-in_err-right-clause-reads
unfolding behind_blanks
steps-returns-in_err-right-clause-reads t c =
    let e = rows_are c.args.self.now.leaves.total c.args.self.now.room c.args.level c.steps.cursor in
    first_of (search rules, grind (arith, common_steps, after_after, after_none))

pub steps-steps-preserved : goal.steps-steps-preserved
unfolding behind_blanks
steps-steps-preserved t c =
    let e = rows_are c.args.self.now.leaves.total c.args.self.now.room c.args.level c.steps.cursor in
    record { reads = first_of (search rules, grind (arith, common_steps, after_after, after_none)); left = omega (arith, c.in_ok-right.ensures.left) }

pub steps-returns-clause-reads : goal.steps-returns-clause-reads
unfolding behind_blanks
steps-returns-clause-reads t c =
    let e = rows_are c.args.self.now.leaves.total c.args.self.now.room c.args.level c.steps.cursor in
    first_of (search rules, grind (arith, common_steps, after_after, after_none))

pub steps-steps-smaller : goal.steps-steps-smaller
unfolding behind_blanks
steps-steps-smaller t c =
    let l = past_operator c.args.level c.in-Some.op c.steps.cursor (sym c.next_at.ensures.op ∙ c.in-Some.is) in
    let e = ap (behind_by c.steps.cursor) c.in-Some.is in
    let k : length c.binary.new.cursor < length c.steps.cursor = omega (arith, ap length (c.next_at.ensures.rest ∙ e), c.in_ok-right.ensures.left) in k

pub arguments-returns-then-comes-clause-reads : goal.arguments-returns-then-comes-clause-reads
unfolding arguments behind_mark
arguments-returns-then-comes-clause-reads t c =
    first_of (search rules, grind (arith, common_steps, after_after, after_none))

pub arguments-returns-in_err-expr-clause-reads : goal.arguments-returns-in_err-expr-clause-reads
unfolding arguments behind_mark
arguments-returns-in_err-expr-clause-reads t c =
    first_of (search rules, grind (arith, common_steps, after_after, after_none))

pub arguments-more-init : goal.arguments-more-init
unfolding arguments behind_mark
arguments-more-init t c =
    record { reads = first_of (search rules, grind (arith, common_steps, after_after, after_none)); left = omega (arith, c.in_ok-expr.ensures.left) }

pub arguments-returns-in_err-expr-2-clause-reads : goal.arguments-returns-in_err-expr-2-clause-reads
unfolding behind_mark
arguments-returns-in_err-expr-2-clause-reads t c =
    let e = arguments_are c.args.self.now.leaves.total c.args.self.now.room c.more.cursor in
    first_of (search rules, grind (arith, common_steps, after_after, after_none))

pub arguments-more-preserved : goal.arguments-more-preserved
unfolding behind_mark
arguments-more-preserved t c =
    let e = arguments_are c.args.self.now.leaves.total c.args.self.now.room c.more.cursor in
    record { reads = first_of (search rules, grind (arith, common_steps, after_after, after_none)); left = omega (arith, c.in_ok-expr-2.ensures.left) }

pub arguments-returns-then-not-comes-clause-reads : goal.arguments-returns-then-not-comes-clause-reads
unfolding behind_mark
arguments-returns-then-not-comes-clause-reads t c =
    let e = arguments_are c.args.self.now.leaves.total c.args.self.now.room c.more.cursor in
    first_of (search rules, grind (arith, common_steps, after_after, after_none))

pub arguments-returns-clause-reads : goal.arguments-returns-clause-reads
unfolding behind_mark
arguments-returns-clause-reads t c =
    let e = arguments_are c.args.self.now.leaves.total c.args.self.now.room c.more.cursor in
    first_of (search rules, grind (arith, common_steps, after_after, after_none))

pub arguments-more-smaller : goal.arguments-more-smaller
unfolding behind_mark
arguments-more-smaller t c =
    let u = c.more.cursor in
    let found : (first (blanks u) == 44) ≡ true = sym c.comes-in-more.ensures.found ∙ c.more-test.true in
    let l = past_mark 43 u (eqb-true (first (blanks u)) 44 found) in
    let e = ap (λ b. if b then drop 1 (blanks u) else u) found in
    let k : length c.expr-in-more.new.cursor < length u = omega (arith, ap length (c.comes-in-more.ensures.rest ∙ e), c.in_ok-expr-2.ensures.left) in k

pub named-returns-then-not-comes-clause-reads : goal.named-returns-then-not-comes-clause-reads
unfolding named behind_mark
named-returns-then-not-comes-clause-reads t c =
    first_of (search rules, grind (arith, common_steps, after_after, after_none))

pub named-returns-in_err-found-in-Some-clause-reads : goal.named-returns-in_err-found-in-Some-clause-reads
unfolding named behind_mark
named-returns-in_err-found-in-Some-clause-reads t c =
    first_of (search rules, grind (arith, common_steps, after_after, after_none))

pub named-returns-in-None-clause-reads : goal.named-returns-in-None-clause-reads
unfolding named behind_mark
named-returns-in-None-clause-reads t c =
    first_of (search rules, grind (arith, common_steps, after_after, after_none))

pub named-returns-then-takes-clause-reads : goal.named-returns-then-takes-clause-reads
unfolding named behind_mark
named-returns-then-takes-clause-reads t c =
    first_of (search rules, grind (arith, common_steps, after_after, after_none))

pub named-returns-else-takes-clause-reads : goal.named-returns-else-takes-clause-reads
unfolding named behind_mark
named-returns-else-takes-clause-reads t c =
    first_of (search rules, grind (arith, common_steps, after_after, after_none))
