use Rattle.std.proofs.Common.{◌∙◌}
use Rattle.tclv_text.proofs.FoldLemmas.{same_word}
use Rattle.tclv_text.proofs.words.is_ascii_word.Goals as goal

pub returns : goal.returns
returns c = c.eq.ensures ∙ same_word c.args.text.now c.args.word.now c.requires.text c.requires.word
