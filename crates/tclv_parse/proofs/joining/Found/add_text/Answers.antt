use Rattle.std.specs.Str.{chars}
use Rattle.tclv_parse.proofs.TreeLaws.{adds-text}
use Rattle.tclv_parse.proofs.joining.Found.add_text.Goals as goal

pub returns : goal.returns
returns c = adds-text c.args.self.now c.take_text-text.new.self.parts c.take_text-text.result (chars c.args.more.now) c.push.new.self c.take_text-text.ensures.parts c.take_text-text.ensures.text_is c.in_ok-push.ensures.ok
