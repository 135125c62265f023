use Rattle.std.proofs.Common.{◌++◌, ap, ◌∙◌}
use Rattle.tclv_parse.specs.Trees.{pending}
use Rattle.tclv_parse.proofs.TreeLaws.{adds-part}
use Rattle.tclv_parse.proofs.joining.Found.add_part.Goals as goal

pub returns : goal.returns
returns c =
    λ parts. ap (λ o. c.push.new.self ++ pending o parts) c.in_ok-end_text.ensures.none ∙ adds-part c.args.self.now c.end_text.new.self.parts c.push.new.self c.args.part c.requires c.in_ok-end_text.ensures.parts c.in_ok-push.ensures.ok parts
