-- What becomes of a refused call of a data command in the code.
use Rattle.std.specs.Prelude.{◌≡◌, ◌≤◌, List, length, Result, Ok, Err}
use Rattle.tclv_model.specs.declared.data_commands.CmdFault.{CmdFault}
use Rattle.tclv_model.specs.declared.data_commands.CmdFault.TheVariants as fault
use Rattle.tclv_value.specs.Stacks.{under}
use Rattle.tclv_engine.specs.declared.endings.End.{End}
use Rattle.tclv_engine.specs.declared.endings.End.TheVariants as end
use Rattle.tclv_engine.specs.State.{Text}
use Rattle.tclv_engine.specs.Answers.{KeepsStack, Raises, last_of}

-- What a refused data command becomes: its message and its code, which are the top texts, are those of an error; or memory ran out.
abbrev pub BecomesError : List Text → End → List Text → Type 0
BecomesError before e after = Raises (last_of (under 1 before)) (last_of before) after e × KeepsStack {T = Unit {0}} (under 2 before) (Err e) after

-- a refused call left its message and its code on the stack
abbrev pub HasReply : CmdFault → List Text → Type 0
HasReply fault.NoMemory stack = Unit {0}
HasReply kind stack = 2 ≤ length stack

-- what becomes of a refusal in the code
abbrev pub EndsRefused : CmdFault → List Text → Result (Unit {0}) End → List Text → Type 0
EndsRefused fault.NoMemory before r after = r ≡ Err end.Memory
EndsRefused kind before (Ok t) after = ⊥
EndsRefused kind before (Err e) after = BecomesError before e after
