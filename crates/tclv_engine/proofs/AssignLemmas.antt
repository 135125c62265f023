-- A variable that can't be set.
use Rattle.std.proofs.Common.{◌≡◌, ℕ, List, [], ap, ◌∙◌, false, Err, Some}
use Rattle.tclv_io.specs.World.{World}
use Rattle.tclv_reply.specs.Names.{naming}
use Rattle.tclv_vars.specs.declared.faults.VarFault.{VarFault}
use Rattle.tclv_vars.specs.declared.faults.VarFault.TheVariants as fault
use Rattle.tclv_vars.specs.Table.{Refuses}
use Rattle.tclv_model.specs.Message.{text_of}
use Rattle.tclv_model.specs.declared.error_codes.ErrorCode.TheVariants.{NoCode}
use Rattle.tclv_engine.specs.declared.endings.End.{End}
use Rattle.tclv_engine.specs.declared.machine.Machine.{Machine}
use Rattle.tclv_engine.specs.State.{Text, state_of}
use Rattle.tclv_model.specs.ErrorCodes.{error_code}
use Rattle.tclv_engine.specs.Names.{bytes_of, write_named}
use Rattle.tclv_engine.specs.Variables.{is_unbuilt, assign, setting_message, RefusesSetting}
use Rattle.tclv_engine.specs.Answers.{Outer, Runs, SameState, Raises, on_top}
use Rattle.tclv_engine.proofs.Binds.{runs_as}
use Rattle.tclv_engine.proofs.Leaves.{raise_runs, memory_runs}
use Rattle.tclv_engine.proofs.VariableLemmas.{assign-write}

module _ {W : Type 0} (old new : (Machine W)) (w : World) (here : Outer) (bs : List ℕ) (name value : Text) where
  refused-by : (f : VarFault) (e : End) → here.told ≡ Some w → SameState old new → bs ≡ bytes_of name → is_unbuilt bs ≡ false →
      write_named old.values.vars (naming (bytes_of name)) ≡ Err f →
      Raises (text_of (setting_message f) name []) (error_code NoCode name) new.values.store.stack e →
      Runs {T = Unit {0}} (assign name value (state_of old w)) on_top (record { world = w; torn = here.torn; events = old.writes }) (Err e) new here
  refused-by f e told same b u r h = runs_as (assign-write bs name value (state_of old w) (Err f) b u (ap (λ x. write_named old.values.vars (naming x)) b ∙ r)) (raise_runs old told same h)

  -- the refusal of a write, or want of memory
  pub refused-runs : (f : VarFault) (e : End) → here.told ≡ Some w → SameState old new → bs ≡ bytes_of name → is_unbuilt bs ≡ false →
      Refuses (write_named old.values.vars (naming (bytes_of name))) f →
      RefusesSetting f name new.values.store.stack e →
      Runs {T = Unit {0}} (assign name value (state_of old w)) on_top (record { world = w; torn = here.torn; events = old.writes }) (Err e) new here
  refused-runs fault.NoVariable e told same b u r h = refused-by fault.NoVariable e told same b u r h
  refused-runs fault.NoElement e told same b u r h = refused-by fault.NoElement e told same b u r h
  refused-runs fault.IsArray e told same b u r h = refused-by fault.IsArray e told same b u r h
  refused-runs fault.NotArray e told same b u r h = refused-by fault.NotArray e told same b u r h
  refused-runs fault.LinkExists e told same b u r h = refused-by fault.LinkExists e told same b u r h
  refused-runs fault.NoLevel e told same b u r h = refused-by fault.NoLevel e told same b u r h
  refused-runs fault.NoMemory e told same b u r h = memory_runs (ap (λ x. Err x) h) told same.events
