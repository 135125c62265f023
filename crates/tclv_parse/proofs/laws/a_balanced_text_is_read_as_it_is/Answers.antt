use Rattle.tclv_parse.specs.Grammar.{deeper_by}
use Rattle.tclv_parse.proofs.Braces.{braced_read, braced_word}
use Rattle.tclv_parse.proofs.laws.a_balanced_text_is_read_as_it_is.Goals as goal

pub returns : goal.returns
returns c = record { braced = braced_read; word = λ whole depth. braced_word (deeper_by whole depth) }
