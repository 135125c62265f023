use Rattle.std.proofs.Common.{◌∙◌}
use Rattle.tclv_strings.proofs.ClassLemmas.{class_same}
use Rattle.tclv_strings.proofs.classes.class_named.Goals as goal

pub returns : goal.returns
returns c = c.class_of_bytes.ensures ∙ class_same c.args.word.now c.requires
