use Rattle.std.proofs.Common.{map, take}
use Rattle.tclv_value.specs.Elements.{IsListText}
use Rattle.tclv_value.proofs.forms.list_of_kids.Given as goal

-- So many elements are written.
abbrev pub invariant-loop-k : goal.invariant-loop-k
invariant-loop-k g l = IsListText (map (g.K.Texts.stands l.kids) (take l.k l.list.ids)) l.text.items
