use Rattle.std.proofs.Common.{◌-◌, length, sym, ◌∙◌}
use Rattle.tclv_lists.specs.Variables.{SetsOpen}
use Rattle.tclv_lists.proofs.AtOnceLemmas.{put_high, put_cell, put_changes, set_open}
use Rattle.tclv_lists.proofs.setting.set_at_once.Goals as goal

pub give_text-requires-clause-cell : goal.give_text-requires-clause-cell
give_text-requires-clause-cell c = put_cell c.args.store.now c.list_set.new.self c.args.cell c.args.n c.requires.words c.requires.height c.in-Ok.ensures.set

pub give_text-requires-clause-height : goal.give_text-requires-clause-height
give_text-requires-clause-height c = put_high c.args.store.now c.list_set.new.self c.args.cell c.args.n c.requires.words c.requires.height c.in-Ok.ensures.set

pub returns-in-Ok-clause-set : goal.returns-in-Ok-clause-set
returns-in-Ok-clause-set c _ = put_changes c.args.store.now c.list_set.new.self c.args.cell c.args.n c.requires.words c.requires.height c.in-Ok.ensures.set c.give_text.new.store c.give_text.ensures.stack c.give_text.ensures.cells c.requires.cell

pub returns-in-Ok-clause-object : goal.returns-in-Ok-clause-object
returns-in-Ok-clause-object c _ = set_open c.args.store.now c.list_set.new.self c.give_text.new.store c.args.cell (c.args.n - 2) c.in-Ok.ensures.along c.give_text.ensures.objects

pub returns-in-Err-NotList-clause-shut : goal.returns-in-Err-NotList-clause-shut
returns-in-Err-NotList-clause-shut c failed opens = absurd (let e = sym c.in-Err-NotList.field-0-is ∙ c.in-Err-NotList.ensures.opens opens in cc)

pub returns-in-Err-BadIndex-clause-shut : goal.returns-in-Err-BadIndex-clause-shut
returns-in-Err-BadIndex-clause-shut c failed opens = absurd (let e = sym c.in-Err-BadIndex.field-0-is ∙ c.in-Err-BadIndex.ensures.opens opens in cc)

pub returns-in-Err-OutOfRange-clause-shut : goal.returns-in-Err-OutOfRange-clause-shut
returns-in-Err-OutOfRange-clause-shut c failed opens = absurd (let e = sym c.in-Err-OutOfRange.field-0-is ∙ c.in-Err-OutOfRange.ensures.opens opens in cc)
