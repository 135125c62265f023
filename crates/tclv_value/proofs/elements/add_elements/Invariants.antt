use Rattle.std.proofs.Common.{ℕ, List, ◌++◌, take}
use Rattle.tclv_value.specs.Elements.{IsListText}
use Rattle.tclv_value.proofs.elements.add_elements.Given as goal

-- So many elements are added.
abbrev pub invariant-loop-element : goal.invariant-loop-element
invariant-loop-element l = (ts : List (List ℕ)) → IsListText ts l.fn.list.items → IsListText (ts ++ take l.element-index l.elements) l.list.items
