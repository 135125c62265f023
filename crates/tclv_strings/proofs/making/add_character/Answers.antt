use Rattle.std.proofs.Common.{ap, ◌∙◌}
use Rattle.std.specs.Str.{chars}
use Rattle.tclv_strings.proofs.MakingLemmas.{char_points, text_as}
use Rattle.tclv_strings.proofs.making.add_character.Goals as goal

pub returns : goal.returns
returns c = text_as c.push.result c.args.text.now c.push.new.self _ _ (ap chars (c.as_bytes.ensures.value ∙ c.encode_utf8.ensures.value) ∙ char_points c.args.c c.ranges.c.0) c.push.ensures.ok
