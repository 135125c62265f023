use Rattle.std.proofs.Common.{rules, arith, length}
use Rattle.std.proofs.lemmas.Grind.{common_steps}
use Rattle.tclv_exprp.specs.ExpressionGrammar.{expression, readers, max_room}
use Rattle.tclv_exprp.proofs.NestingLemmas.{answers_fails, finished_more, finished_none, whole_size}
use Rattle.tclv_exprp.proofs.expressions.parse_expr.Goals as goal

pub returns-in_err-tree : goal.returns-in_err-tree
unfolding expression
returns-in_err-tree c =
    let n = whole_size c.args.text.now c.requires in
    let r = answers_fails (length c.args.text.now) ((readers (length c.args.text.now) max_room).2 c.new-cursor.result) c.in_err-tree.field-0.0 _ c.in_err-tree.ensures.reads in
    first_of (search rules, grind (arith, common_steps))

pub returns-then-left-gt0 : goal.returns-then-left-gt0
unfolding expression
returns-then-left-gt0 c =
    let n = whole_size c.args.text.now c.requires in
    let r = finished_more (length c.args.text.now) c.in_ok-tree.tree c.blanks.new.cursor (omega (arith, c.left.ensures)) in
    first_of (search rules, grind (arith, common_steps))

pub returns : goal.returns
unfolding expression
returns c =
    let n = whole_size c.args.text.now c.requires in
    let r = finished_none (length c.args.text.now) c.in_ok-tree.tree c.blanks.new.cursor (omega (arith, c.left.ensures)) in
    first_of (search rules, grind (arith, common_steps))
