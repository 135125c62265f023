use Rattle.std.proofs.Common.{[], ◌∷◌}
use Rattle.tclv_parse.proofs.TreeLaws.{adds-text}
use Rattle.tclv_parse.proofs.joining.Found.add_char.Goals as goal

pub returns : goal.returns
returns c = adds-text c.args.self.now c.take_text-text.new.self.parts c.take_text-text.result (c.args.c ∷ []) c.push_char.new.text c.take_text-text.ensures.parts c.take_text-text.ensures.text_is c.in_ok-push_char.ensures
