use Rattle.std.proofs.Common.{◌≡◌, ◌<◌, ◌++◌, length, [], ◌∷◌, ap, sym, ◌∙◌, arith}
use Rattle.std.proofs.lemmas.Bool.Decides.{nat_tests}
use Rattle.tclv_parse.specs.declared.tree.Part.TheVariants as part
use Rattle.tclv_parse.specs.Grammar.{text_part}
use Rattle.tclv_parse.proofs.TreeLaws.{literal-part, no-part}
use Rattle.tclv_parse.proofs.literals.text_parts.Goals.{then-not-is_empty+in_ok-push, else-not-is_empty}
use Rattle.tclv_parse.proofs.literals.text_parts.Goals as goal

pub returns-clause-ok : goal.returns-clause-ok
returns-clause-ok c =
    let bs = c.bytes.result.now in
    elim c.if-not-is_empty.branch [
      | then-not-is_empty+in_ok-push w ↦
          let some : 0 < length bs = grind (arith, nat_tests, c.is_empty.ensures, w.if-not-is_empty.true) in
          w.parts-is ∙ w.in_ok-push.ensures.ok ∙ ap (λ l. l ++ part.Literal c.args.text ∷ []) c.new-parts.ensures ∙ literal-part bs c.args.text c.bytes.ensures.utf8 c.bytes.ensures.text some
      | else-not-is_empty w ↦
          let none : length bs ≡ 0 = grind (arith, nat_tests, c.is_empty.ensures, w.if-not-is_empty.false) in
          w.parts-is ∙ c.new-parts.ensures ∙ ap text_part (sym (no-part bs none) ∙ c.bytes.ensures.text)
    ]
