use Rattle.std.proofs.Common.{ap, arith}
use Rattle.tclv_value.specs.Kept.{list_in}
use Rattle.tclv_value.proofs.setting.room_at.Goals as goal

pub returns-then-place-len-clause-room : goal.returns-then-place-len-clause-room
returns-then-place-len-clause-room c list is same = absurd (omega (arith, c.requires.len list.ids (ap list_in is), same, c.if-place-len.true))
