-- Texts as lists: why a text is none, and what a list becomes.
use Rattle.std.specs.Prelude.{ℕ, List, ◌++◌, take, drop, encode_utf8_all}
use Rattle.tclv_text.specs.declared.lists.ListFault.{ListFault}
use Rattle.tclv_text.specs.declared.lists.ListFault.TheVariants as list
use Rattle.tclv_text.specs.Spans.{IsFaultOf}
use Rattle.tclv_value.specs.declared.faults.ValueFault.{ValueFault}
use Rattle.tclv_value.specs.declared.faults.ValueFault.TheVariants as fault

-- The text is no list, and the fault is its first. A number is a place in the text's bytes. Want of memory is no fault of a text.
abbrev pub IsNoList : List ℕ → ListFault → Type 0
IsNoList t list.NoMemory = ⊥
IsNoList t why = IsFaultOf (encode_utf8_all t) why

-- A call that wants a list of a text is refused: the text is none, or memory ran out.
abbrev pub RefusesList : ValueFault → List ℕ → Type 0
RefusesList (fault.NotList why) t = IsNoList t why
RefusesList fault.NoMemory t = Unit {0}
RefusesList _ t = ⊥

-- the list where the elements from one place up to another give way to these
abbrev pub replaced : List (List ℕ) → ℕ → ℕ → List (List ℕ) → List (List ℕ)
replaced ts from to with_these = take from ts ++ with_these ++ drop to ts

-- the elements from a place on, so many as are asked for
abbrev pub part : List (List ℕ) → ℕ → ℕ → List (List ℕ)
part ts from len = take len (drop from ts)
