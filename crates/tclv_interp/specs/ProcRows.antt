-- The row of `proc`.
use Rattle.std.specs.Prelude.{◌≡◌, List, [], slice_index_or, if◌then◌else◌}
use Rattle.std.specs.FinMap.{insert}
use Rattle.std.specs.declared.rc.Rc.{Rc}
use Rattle.std.specs.Rc.{rc_value}
use Rattle.tclv_value.specs.Procedures.{Procedure}
use Rattle.tclv_ctl.specs.Parameters.{proc_of}
use Rattle.tclv_engine.specs.State.{Text, State, own_in, with_own}
use Rattle.tclv_engine.specs.Results.{Res, Outcome, bind, ok}
use Rattle.tclv_reply.specs.Names.{is_qualified}
use Rattle.tclv_engine.specs.Names.{bytes_of}
use Rattle.tclv_engine.specs.Usages.{call_word}
use Rattle.tclv_engine.specs.Variables.{not_built}
use Rattle.tclv_engine.specs.DataAnswers.{of_answer, arguments}
use Rattle.tclv_interp.specs.declared.builtins.Tables.{Tables}
use Rattle.tclv_interp.specs.declared.builtins.Target.TheVariants as target

-- The name stands for the procedure, whatever it stood for. Qualified names aren't built yet.
abbrev pub defined : Text → Procedure → State Tables → Res Tables Outcome
defined name d st =
    if is_qualified (bytes_of name) then not_built st
    else ok [] (with_own (record (own_in st) { commands = insert (own_in st).commands (bytes_of name) (target.Procedure d) }) st)

-- `proc name args body`: the parameters are read before the name is looked at.
abbrev pub row_proc : List Text → State Tables → Res Tables Outcome
row_proc words st =
    bind (of_answer (proc_of (call_word words) (arguments words)) st) (λ d s1. defined (slice_index_or (arguments words) 0 []) d s1)

-- ---- in the code

-- the call returns the procedure
abbrev pub is_procedure : {Z : Type 0} → Procedure → Rc Procedure Z → List Text → Type 0
is_procedure d def stack = rc_value def ≡ d
