-- What the calls of a store answer.
use Rattle.std.specs.Prelude.{◌≡◌, ℤ, Bool, Option, None, Result, Err}
use Rattle.tclv_text.specs.declared.numbers.WholeFault.{WholeFault}
use Rattle.tclv_text.specs.declared.numbers.WholeFault.TheVariants as read
use Rattle.tclv_text.specs.declared.lists.ListFault.{ListFault}
use Rattle.tclv_text.specs.declared.lists.ListFault.TheVariants as list
use Rattle.tclv_value.specs.declared.faults.ValueFault.{ValueFault}
use Rattle.tclv_value.specs.declared.faults.ValueFault.TheVariants as fault

-- the fault of a text that is no whole number, as one of a value
abbrev pub value_fault : WholeFault → ValueFault
value_fault read.NotWhole = fault.NotWhole
value_fault read.TooLarge = fault.TooLarge
value_fault read.FloatForm = fault.FloatForm

-- the fault of a text that is no list, as one of a value: want of memory is the same one
abbrev pub list_fault : ListFault → ValueFault
list_fault list.NoMemory = fault.NoMemory
list_fault why = fault.NotList why

-- A text that was read as a whole number, with this answer, is refused with this fault: with that of the reading, or for want of memory.
abbrev pub RefusesWhole : ValueFault → Result ℤ WholeFault → Type 0
RefusesWhole fault.NotWhole answer = answer ≡ Err read.NotWhole
RefusesWhole fault.TooLarge answer = answer ≡ Err read.TooLarge
RefusesWhole fault.FloatForm answer = answer ≡ Err read.FloatForm
RefusesWhole fault.NoMemory answer = Unit {0}
RefusesWhole _ answer = ⊥

-- A text that was read as a truth value, with this answer, is refused with this fault: it is none, or memory ran out.
abbrev pub RefusesTruth : ValueFault → Option Bool → Type 0
RefusesTruth fault.NotTruth answer = answer ≡ None
RefusesTruth fault.NoMemory answer = Unit {0}
RefusesTruth _ answer = ⊥
