use Rattle.std.proofs.Common.{Some, ap, sym, ◌∙◌}
use Rattle.tclv_strings.proofs.FindLemmas.{place_of_byte, first_found, none_found}
use Rattle.tclv_strings.proofs.finding.before_first.Goals as goal

pub count_characters-requires : goal.count_characters-requires
count_characters-requires c = (place_of_byte c.args.text.now c.args.needle.now c.requires.text c.requires.needle c.requires.some c.in-Some.at c.in-Some.ensures.1).front

pub returns-in-Some : goal.returns-in-Some
returns-in-Some c = ap Some c.count_characters.ensures ∙ sym (first_found c.args.text.now c.args.needle.now c.requires.text c.requires.needle c.requires.some c.in-Some.at c.in-Some.ensures)

pub returns-in-None : goal.returns-in-None
returns-in-None c = sym (none_found c.args.text.now c.args.needle.now c.requires.text c.requires.needle c.requires.some c.in-None.ensures)
