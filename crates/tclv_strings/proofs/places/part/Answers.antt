use Rattle.std.proofs.Common.{length, take, drop, ◌-◌}
use Rattle.tclv_strings.proofs.PlaceLemmas.{part_is, rest_is}
use Rattle.tclv_strings.proofs.places.part.Goals as goal

pub returns-clause-text : goal.returns-clause-text
returns-clause-text c =
    let text = c.args.text.now in
    let n = c.byte_of.result in
    part_is text (take (length text - n) (drop n text)) n c.byte_of-2.result c.args.from c.args.to (rest_is text n) c.byte_of.ensures c.byte_of-2.ensures
