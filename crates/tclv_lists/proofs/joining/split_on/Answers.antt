use Rattle.std.proofs.Common.{sym, ◌∙◌}
use Rattle.std.specs.Str.{chars}
use Rattle.tclv_lists.specs.Joining.{is_one_of}
use Rattle.tclv_lists.proofs.SplitLemmas.{part_ended, part_continued}
use Rattle.tclv_lists.proofs.joining.split_on.Goals as goal

pub returns-then-is_among-clause-split : goal.returns-then-is_among-clause-split
returns-then-is_among-clause-split c =
    part_ended (is_one_of (chars c.args.separators.now)) c.end_part.result c.args.store.now.stack c.end_part.new.store.stack c.args.part.now c.end_part.new.part c.args.c
    (sym c.is_among.ensures ∙ c.if-is_among.true) c.end_part.ensures.pushed c.end_part.ensures.empty

pub returns-clause-split : goal.returns-clause-split
returns-clause-split c =
    part_continued (is_one_of (chars c.args.separators.now)) c.add_character.result c.args.store.now.stack c.args.part.now c.add_character.new.text c.args.c
    (sym c.is_among.ensures ∙ c.if-is_among.false) c.add_character.ensures
