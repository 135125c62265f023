-- What data commands answer that are handed a variable.
use Rattle.std.proofs.Common.{◌≡◌, ℕ, ◌+◌, ◌-◌, ◌<◌, ◌≤◌, List, [], ◌∷◌, ◌++◌, length, take, get_or, length-append, sym, ap, ◌∙◌, refl, subst, arith, Result, Ok, Err, Some, None, true, false, Bool, nat_eq, Option}
use Rattle.std.specs.Prelude.{OnOk, IfErr, ◌||◌, codes}
use Rattle.std.specs.Ordering.{nat_cmp}
use Rattle.std.specs.Str.{chars}
use Rattle.std.specs.Option.{unwrap_or}
use Rattle.std.specs.FinMap.{FinMap, get, insert}
use Rattle.std.proofs.lemmas.List.{append_assoc, drop_more, drop_all, get_or_push}
use Rattle.std.proofs.Math.ListN.{get_or-append}
use Rattle.std.proofs.Math.Seq.{take-append_seam}
use Rattle.std.proofs.lemmas.Option.{none-some}
use Rattle.std.proofs.lemmas.Str.{chars-nil}
use Rattle.std.proofs.lemmas.Bool.{eqb-true, cond-true, cond-false}
use Rattle.std.specs.Cmp.Lexicographic.{slice_cmp}
use Rattle.tclv_vars.specs.declared.places.Home.{Home}
use Rattle.tclv_io.specs.World.{World}
use Rattle.tclv_vars.specs.declared.places.Place.TheVariants as place
use Rattle.tclv_vars.specs.declared.parts.Slot.{Slot}
use Rattle.tclv_vars.specs.declared.parts.Content.{Content}
use Rattle.tclv_vars.specs.declared.parts.Content.TheVariants.{Plain, Array}
use Rattle.tclv_vars.specs.declared.faults.VarFault.{VarFault}
use Rattle.tclv_vars.specs.declared.faults.VarFault.TheVariants as var_fault
use Rattle.tclv_vars.specs.Scoping.{home, slot_of}
use Rattle.tclv_vars.specs.Table.{Table, Spot, there, plain_at, read_in, read_element, read_slot, locate_in, locate_element, locate_slot, set_spot, set_cell, has_value, Refuses}
use Rattle.tclv_model.specs.declared.data_commands.CmdFault.{CmdFault}
use Rattle.tclv_model.specs.declared.data_commands.CmdFault.TheVariants as fault
use Rattle.tclv_model.specs.declared.data_commands.VarState.{VarState}
use Rattle.tclv_model.specs.declared.data_commands.VarState.TheVariants as var
use Rattle.tclv_model.specs.declared.messages.MessageId.TheVariants.{CannotReadArray}
use Rattle.tclv_model.specs.Message.{text_of}
use Rattle.tclv_model.specs.Rows.{Answer, Gives, Refuses as Declined, VarAnswer, Variable, Unset, WholeArray, PlainElement}
use Rattle.tclv_value.specs.View.{View}
use Rattle.tclv_value.specs.Stacks.{top, under}
use Rattle.tclv_model.specs.Rows.{and_then}
use Rattle.tclv_model.specs.Values.{place_of}
use Rattle.tclv_lists.specs.Paths.{path_of, checked}
use Rattle.tclv_lists.specs.Variables.{lpop_of, place_in}
use Rattle.tclv_reply.specs.Replies as replies
use Rattle.tclv_plain.specs.declared.cell_commands.CellCommand.{CellCommand}
use Rattle.tclv_plain.specs.declared.cell_commands.CellCommand.TheVariants as command
use Rattle.tclv_engine.specs.declared.endings.End.{End}
use Rattle.tclv_engine.specs.declared.endings.End.TheVariants as end
use Rattle.tclv_engine.specs.declared.machine.Machine.{Machine}
use Rattle.tclv_engine.specs.Holdings.{Holdings, IsTied}
use Rattle.tclv_engine.specs.State.{Text, State, state_of, with_variables}
use Rattle.tclv_engine.specs.Results.{Res, Outcome, bind, done, ok, plain}
use Rattle.tclv_reply.specs.Names.{Naming, naming}
use Rattle.tclv_engine.specs.Names.{bytes_of, read_named, write_named}
use Rattle.tclv_engine.specs.Variables.{is_unbuilt, not_built}
use Rattle.tclv_engine.specs.Usages.{call_word}
use Rattle.tclv_engine.specs.Operations.{second_of}
use Rattle.tclv_engine.specs.Answers.{Outer, Runs, start, SameState, PushesResult, KeepsStack, as_result}
use Rattle.tclv_engine.specs.DataAnswers.{of_answer}
use Rattle.tclv_engine.specs.DataSteps.{BecomesError, EndsRefused, HasReply}
use Rattle.tclv_plain.specs.CellRows.{seen, variable_seen, named, keep, is_of_array, unbuilt, on_variable, cell_row, row_of}
use Rattle.tclv_plain.specs.CellSteps.{unsettable, Changes}
use Rattle.tclv_engine.proofs.Binds.{runs_as, answers_as}
use Rattle.tclv_engine.proofs.Leaves.{done_runs, raise_runs, raises_as}
use Rattle.tclv_engine.proofs.StackLemmas.{last-pushed, over_push, take-under}
use Rattle.tclv_engine.proofs.HoldingsLemmas.{tied_put}
use Rattle.tclv_engine.proofs.VariableLemmas.{assign-write}
use Rattle.tclv_engine.proofs.DataLemmas.{refused_as, refused_stack, results_stack, has_reply, call_is, arguments_are, message_below, code_on_top, under_reply}

-- ---- rows that refuse

abbrev IsRefusal : {A : Type 0} → Answer A → Type 0
IsRefusal (Gives a) = ⊥
IsRefusal (Declined kind message code) = Unit {0}

pub no_gives : {A : Type 0} (answer : Answer A) (a : A) → IsRefusal answer → answer ≡ Gives a → ⊥
no_gives answer a r e = subst IsRefusal e r

refused_first : {A B : Type 0} (a : Answer A) (rest : A → Answer B) → IsRefusal a → IsRefusal (and_then a rest)
refused_first (Gives a) rest h = absurd h
refused_first (Declined kind message code) rest h = tt

refused_behind : {A B : Type 0} (a : Answer A) (rest : A → Answer B) → ((x : A) → IsRefusal (rest x)) → IsRefusal (and_then a rest)
refused_behind (Gives a) rest h = h a
refused_behind (Declined kind message code) rest h = tt

refused_path : {A : Type 0} (path : List Text) (rest : Answer A) → IsRefusal rest → IsRefusal (checked path rest)
refused_path [] rest h = h
refused_path (i ∷ path) rest h = refused_behind (place_of i 0) (λ k. checked path rest) (λ k. refused_path path rest h)

-- an array has no value
whole_popped : (name i : Text) → IsRefusal (lpop_of name i WholeArray)
whole_popped name i = refused_first (place_in name i WholeArray) _ (refused_behind (place_of i 0) _ (λ k. tt))

pub whole_refused : (c : CellCommand) (call : Text) (words : List Text) → IsRefusal (row_of c call words WholeArray)
whole_refused command.Lappend call [] = tt
whole_refused command.Lappend call (name ∷ values) = tt
whole_refused command.Lpop call [] = tt
whole_refused command.Lpop call (name ∷ []) = whole_popped name (codes "end")
whole_refused command.Lpop call (name ∷ i ∷ []) = whole_popped name i
whole_refused command.Lpop call (name ∷ i ∷ j ∷ words) = tt
whole_refused command.Lset call [] = tt
whole_refused command.Lset call (name ∷ []) = tt
whole_refused command.Lset call (name ∷ w ∷ ws) = refused_path (path_of (take (length ws) (w ∷ ws))) _ tt

-- nor has an element of what is no array
plain_popped : (name i : Text) → IsRefusal (lpop_of name i PlainElement)
plain_popped name i = refused_first (place_in name i PlainElement) _ (refused_behind (place_of i 0) _ (λ k. tt))

pub plain_refused : (c : CellCommand) (call : Text) (words : List Text) → IsRefusal (row_of c call words PlainElement)
plain_refused command.Lappend call [] = tt
plain_refused command.Lappend call (name ∷ values) = tt
plain_refused command.Lpop call [] = tt
plain_refused command.Lpop call (name ∷ []) = plain_popped name (codes "end")
plain_refused command.Lpop call (name ∷ i ∷ []) = plain_popped name i
plain_refused command.Lpop call (name ∷ i ∷ j ∷ words) = tt
plain_refused command.Lset call [] = tt
plain_refused command.Lset call (name ∷ []) = tt
plain_refused command.Lset call (name ∷ w ∷ ws) = refused_path (path_of (take (length ws) (w ∷ ws))) _ tt

-- without words there is no variable
alone_refused : (c : CellCommand) (call : Text) → IsRefusal (row_of c call [] Unset)
alone_refused command.Lappend call = tt
alone_refused command.Lpop call = tt
alone_refused command.Lset call = tt

alone_same : (c : CellCommand) (call : Text) (v : Variable) → row_of c call [] v ≡ row_of c call [] Unset
alone_same command.Lappend call v = refl
alone_same command.Lpop call v = refl
alone_same command.Lset call v = refl

-- ---- the cell of a variable that is set

found_plain : (t : Table) (c d : ℕ) (fault : VarFault) (content : Option Content) → plain_at fault content d ≡ Ok c → (set_cell t d content ≡ there t d) × (d ≡ c)
found_plain t c d fault None e = cc
found_plain t c d fault (Some Plain) e = (refl, cc)
found_plain t c d fault (Some (Array es)) e = cc

element_write : (t : Table) (d : ℕ) (es : FinMap (slice_cmp nat_cmp) ℕ) (i : List ℕ) (o : Option ℕ) (c : ℕ) → read_in t.contents o ≡ Ok c → set_spot t (locate_in t d es i o) ≡ there t c
element_write t d es i None c e = cc
element_write t d es i (Some x) c e =
    let found = found_plain t c x var_fault.NoElement (get t.contents x) e in
    found.0 ∙ ap (there t) found.1

cell_write : (t : Table) (d : ℕ) (content : Option Content) (i : List ℕ) (c : ℕ) → read_element t.contents content i ≡ Ok c → set_spot t (locate_element t d content i) ≡ there t c
cell_write t d None i c e = cc
cell_write t d (Some Plain) i c e = cc
cell_write t d (Some (Array es)) i c e = element_write t d es i (get es i) c e

slot_write : (t : Table) (h : Home) (name : List ℕ) (slot : Option Slot) (index : Option (List ℕ)) (c : ℕ) → read_slot t.contents slot index ≡ Ok c → set_spot t (locate_slot t h name slot index) ≡ there t c
slot_write t h name None None c e = cc
slot_write t h name None (Some i) c e = cc
slot_write t h name (Some s) None c e =
    let found = found_plain t c s.cell var_fault.NoVariable (get t.contents s.cell) e in
    found.0 ∙ ap (there t) found.1
slot_write t h name (Some s) (Some i) c e = cell_write t s.cell (get t.contents s.cell) i c e

-- a write to what is set changes nothing
pub read_write : (t : Table) (n : Naming) (c : ℕ) → read_named t n ≡ Ok c → write_named t n ≡ Ok (record { cell = c; fresh = false; after = t })
read_write t n c e = slot_write t (home t.scopes place.Frame) n.name (slot_of t.scopes (home t.scopes place.Frame) n.name) n.index c e

same_or : (vars : Table) (cell c : ℕ) (b : Bool) → nat_eq c cell ≡ b → has_value vars cell ≡ true → has_value vars c ≡ (b || has_value vars c)
same_or vars cell c true e h = ap (has_value vars) (eqb-true c cell e) ∙ h
same_or vars cell c false e h = refl

-- a cell that was set gets another text
pub tied_again : (vars : Table) (cells cells' : FinMap nat_cmp (List ℕ)) (cell : ℕ) (text : List ℕ) → IsTied vars cells → has_value vars cell ≡ true → cells' ≡ insert cells cell text → IsTied vars cells'
tied_again vars cells cells' cell text tied h e = tied_put vars vars cells cells' cell text tied (λ c. same_or vars cell c (nat_eq c cell) refl h) e

-- ---- variables that have no cell

some_inj : {a b : VarState} → Some a ≡ Some b → a ≡ b
some_inj {a} {b} e = ap (λ o. unwrap_or o a) e

told_name : (o : VarState) (n : ℕ) (variable : VarState) → 0 < n → replies.HasName o n → Some o ≡ Some variable → replies.HasName variable n
told_name o n variable l h e = let P : VarState → Type 0 = λ x. replies.HasName x n in subst P (some_inj e) h

pub has_name : (f : VarFault) (variable : VarState) (n : ℕ) → unsettable f ≡ Some variable → 0 < n → replies.HasName variable n
has_name var_fault.NoVariable variable n e l = told_name var.IsArray n variable l l e
has_name var_fault.NoElement variable n e l = told_name var.IsArray n variable l l e
has_name var_fault.IsArray variable n e l = told_name var.IsArray n variable l l e
has_name var_fault.NotArray variable n e l = told_name var.NotArray n variable l l e
has_name var_fault.LinkExists variable n e l = told_name var.IsArray n variable l l e
has_name var_fault.NoLevel variable n e l = told_name var.IsArray n variable l l e
has_name var_fault.NoMemory variable n e l = absurd (none-some variable e)

-- ---- calls on the store

-- a call without a cell keeps all cells
pub cells_alone : (row : VarAnswer) (n : ℕ) (old new : View) (r : Result (Unit {0}) CmdFault) → replies.VarAnswers row var.NoName n old new r → new.cells ≡ old.cells
cells_alone row n old new (Ok t) h = h.gives.cells
cells_alone row n old new (Err kind) h = h.kept

pub cells_array : (row : VarAnswer) (n : ℕ) (old new : View) (r : Result (Unit {0}) CmdFault) → replies.VarAnswers row var.IsArray n old new r → new.cells ≡ old.cells
cells_array row n old new (Ok t) h = h.gives.cells
cells_array row n old new (Err kind) h = h.kept

pub cells_plain : (row : VarAnswer) (n : ℕ) (old new : View) (r : Result (Unit {0}) CmdFault) → replies.VarAnswers row var.NotArray n old new r → new.cells ≡ old.cells
cells_plain row n old new (Ok t) h = h.gives.cells
cells_plain row n old new (Err kind) h = h.kept

pub same_tied : (vars : Table) (old new : View) → new.cells ≡ old.cells → IsTied vars old.cells → IsTied vars new.cells
same_tied vars old new e h = let P : FinMap nat_cmp (List ℕ) → Type 0 = λ m. IsTied vars m in subst P (sym e) h

cells_of : (o variable : VarState) (row : VarAnswer) (n : ℕ) (old new : View) (r : Result (Unit {0}) CmdFault) → Some o ≡ Some variable → (replies.VarAnswers row o n old new r → new.cells ≡ old.cells) → replies.VarAnswers row variable n old new r → new.cells ≡ old.cells
cells_of o variable row n old new r e k h = let P : VarState → Type 0 = λ x. replies.VarAnswers row x n old new r in k (subst P (sym (some_inj e)) h)

-- a variable without a cell keeps all cells
pub untold_cells : (f : VarFault) (variable : VarState) (row : VarAnswer) (n : ℕ) (old new : View) (r : Result (Unit {0}) CmdFault) → unsettable f ≡ Some variable → replies.VarAnswers row variable n old new r → new.cells ≡ old.cells
untold_cells var_fault.NoVariable variable row n old new r e h = cells_of var.IsArray variable row n old new r e (cells_array row n old new r) h
untold_cells var_fault.NoElement variable row n old new r e h = cells_of var.IsArray variable row n old new r e (cells_array row n old new r) h
untold_cells var_fault.IsArray variable row n old new r e h = cells_of var.IsArray variable row n old new r e (cells_array row n old new r) h
untold_cells var_fault.NotArray variable row n old new r e h = cells_of var.NotArray variable row n old new r e (cells_plain row n old new r) h
untold_cells var_fault.LinkExists variable row n old new r e h = cells_of var.IsArray variable row n old new r e (cells_array row n old new r) h
untold_cells var_fault.NoLevel variable row n old new r e h = cells_of var.IsArray variable row n old new r e (cells_array row n old new r) h
untold_cells var_fault.NoMemory variable row n old new r e h = absurd (none-some variable e)

-- the call on a variable that is set: a cell has its text again
pub tied_set : (row : VarAnswer) (n : ℕ) (vars : Table) (old new : View) (cell : ℕ) (r : Result (Unit {0}) CmdFault) → replies.VarAnswers row (var.Cell cell) n old new r → has_value vars cell ≡ true → IsTied vars old.cells → IsTied vars new.cells
tied_set row n vars old new cell (Ok t) h v tied = tied_again vars old.cells new.cells cell h.gives.kept tied v h.gives.cells
tied_set row n vars old new cell (Err kind) h v tied = same_tied vars old new h.kept tied

-- ---- what the call answers on a variable

module _ (row : Variable → VarAnswer) (n : ℕ) (name : Naming) (old new : Holdings) where
  -- the variable has a cell
  pub changed : (spot : Spot) → write_named old.vars name ≡ Ok spot → new.vars ≡ spot.after →
      replies.Changes (row (replies.variable_of (var.Cell spot.cell) old.store)) (var.Cell spot.cell) n old.store new.store → Changes row n name old new (Ok tt)
  changed spot w v h = record {
    keeps = record {
      text = h.text;
      kept = h.kept;
      given = ap (λ m. row (seen m old.store.cells)) w ∙ h.given;
      stack = h.stack;
      sets = record { spot = spot; wrote = w; vars = v; cells = h.cells };
    };
    refuses = tt;
    same = tt;
  }

  pub declined : (spot : Spot) (kind : CmdFault) → write_named old.vars name ≡ Ok spot → new.vars ≡ old.vars →
      replies.VarAnswers (row (replies.variable_of (var.Cell spot.cell) old.store)) (var.Cell spot.cell) n old.store new.store (Err kind) → Changes row n name old new (Err kind)
  declined spot kind w v h = record {
    keeps = tt;
    refuses = let P : Variable → Type 0 = λ x. replies.IsRefused (row x) kind n old.store new.store in subst P (sym (ap (λ m. seen m old.store.cells) w)) h.refuses;
    same = record { vars = v; cells = h.kept };
  }

  -- it was set
  pub found : (cell : ℕ) (r : Result (Unit {0}) CmdFault) → read_named old.vars name ≡ Ok cell → new.vars ≡ old.vars →
      replies.VarAnswers (row (replies.variable_of (var.Cell cell) old.store)) (var.Cell cell) n old.store new.store r → Changes row n name old new r
  found cell (Ok t) e v h = changed (record { cell = cell; fresh = false; after = old.vars }) (read_write old.vars name cell e) v h.gives
  found cell (Err kind) e v h = declined (record { cell = cell; fresh = false; after = old.vars }) kind (read_write old.vars name cell e) v h

  -- it has none, so that the row refuses
  none : (x : Variable) (r : Result (Unit {0}) CmdFault) → variable_seen name old.vars old.store.cells ≡ x → IsRefusal (row x) → new.vars ≡ old.vars → new.store.cells ≡ old.store.cells →
      OnOk r ((p : Text × Text) × (row x ≡ Gives p)) → IfErr r (λ kind. replies.IsRefused (row x) kind n old.store new.store) → Changes row n name old new r
  none x (Ok t) e d v c p q = absurd (no_gives (row x) p.0 d p.1)
  none x (Err kind) e d v c p q = record {
    keeps = tt;
    refuses = let P : Variable → Type 0 = λ y. replies.IsRefused (row y) kind n old.store new.store in subst P (sym e) q;
    same = record { vars = v; cells = c };
  }

  gives_pair : (x : Variable) (variable : VarState) (r : Result (Unit {0}) CmdFault) → replies.VarAnswers (row x) variable n old.store new.store r → OnOk r ((p : Text × Text) × (row x ≡ Gives p))
  gives_pair x variable (Ok t) h = ((h.gives.text, h.gives.kept), h.gives.given)
  gives_pair x variable (Err kind) h = tt

  -- so it answers to a variable that is one of these
  array_by : (o : VarState) (x : Variable) (variable : VarState) (r : Result (Unit {0}) CmdFault) → Some o ≡ Some variable → replies.variable_of o old.store ≡ x →
      ((s : replies.VarAnswers (row (replies.variable_of o old.store)) o n old.store new.store r) → new.store.cells ≡ old.store.cells) →
      variable_seen name old.vars old.store.cells ≡ x → IsRefusal (row x) → new.vars ≡ old.vars →
      replies.VarAnswers (row (replies.variable_of variable old.store)) variable n old.store new.store r → Changes row n name old new r
  array_by o x variable r e k cells s d v h =
      let P : VarState → Type 0 = λ y. replies.VarAnswers (row (replies.variable_of y old.store)) y n old.store new.store r in
      let own = subst P (sym (some_inj e)) h in
      let Q : Variable → Type 0 = λ y. replies.VarAnswers (row y) o n old.store new.store r in
      let as_x = subst Q k own in
      none x r s d v (cells own) (gives_pair x o r as_x) as_x.refuses

  pub untold : (f : VarFault) (variable : VarState) (r : Result (Unit {0}) CmdFault) → unsettable f ≡ Some variable → Refuses (write_named old.vars name) f → IsRefusal (row WholeArray) → IsRefusal (row PlainElement) → new.vars ≡ old.vars →
      replies.VarAnswers (row (replies.variable_of variable old.store)) variable n old.store new.store r → Changes row n name old new r
  untold var_fault.NoVariable variable r e w a b v h = array_by var.IsArray WholeArray variable r e refl (cells_array (row WholeArray) n old.store new.store r) (ap (λ m. seen m old.store.cells) w) a v h
  untold var_fault.NoElement variable r e w a b v h = array_by var.IsArray WholeArray variable r e refl (cells_array (row WholeArray) n old.store new.store r) (ap (λ m. seen m old.store.cells) w) a v h
  untold var_fault.IsArray variable r e w a b v h = array_by var.IsArray WholeArray variable r e refl (cells_array (row WholeArray) n old.store new.store r) (ap (λ m. seen m old.store.cells) w) a v h
  untold var_fault.NotArray variable r e w a b v h = array_by var.NotArray PlainElement variable r e refl (cells_plain (row PlainElement) n old.store new.store r) (ap (λ m. seen m old.store.cells) w) b v h
  untold var_fault.LinkExists variable r e w a b v h = array_by var.IsArray WholeArray variable r e refl (cells_array (row WholeArray) n old.store new.store r) (ap (λ m. seen m old.store.cells) w) a v h
  untold var_fault.NoLevel variable r e w a b v h = array_by var.IsArray WholeArray variable r e refl (cells_array (row WholeArray) n old.store new.store r) (ap (λ m. seen m old.store.cells) w) a v h
  untold var_fault.NoMemory variable r e w a b v h = absurd (none-some variable e)

-- ---- what a kept text does

-- the state after
kept_state : {W : Type 0} → (old new : (Machine W)) (w : World) (spot : Spot) (value : Text) → new.values.vars ≡ spot.after → new.values.store.cells ≡ insert old.values.store.cells spot.cell value →
    new.own ≡ old.own → new.units ≡ old.units → new.depth ≡ old.depth → new.writes ≡ old.writes → with_variables spot.after (insert old.values.store.cells spot.cell value) (state_of old w) ≡ state_of new w
kept_state old new w spot value v c own units depth writes = rw (v, c, own, units, depth, writes)

bind_done : {W A B : Type 0} (a : A) (st : (State W)) (next : A → (State W) → Res W B) → bind (done a st) next ≡ next a st
unfolding bind
bind_done a st next = refl

module _ {W : Type 0} (row : Variable → VarAnswer) (n : ℕ) (name : Text) (old mid new : (Machine W)) (w : World) (here : Outer) (plain_name : is_unbuilt (bytes_of name) ≡ false) (told : here.told ≡ Some w) where
  pub kept_runs : (done_with : Result (Unit {0}) CmdFault) (r : Result (Unit {0}) End) → Changes row n (naming (bytes_of name)) old.values mid.values done_with →
      mid.own ≡ old.own → mid.units ≡ old.units → mid.depth ≡ old.depth → mid.writes ≡ old.writes → SameState mid new →
      OnOk done_with ((r ≡ Ok tt) × (new.values.store.stack ≡ mid.values.store.stack)) → IfErr done_with (λ kind. EndsRefused kind mid.values.store.stack r new.values.store.stack) →
      Runs (bind (of_answer (row (variable_seen (naming (bytes_of name)) old.values.vars old.values.store.cells)) (state_of old w)) (keep name)) as_result (start old w here.torn) r new here
  kept_runs (Ok t) r h own units depth writes same p q =
      let k = h.keeps in
      let st = state_of old w in
      let written = assign-write (bytes_of name) name k.kept st (Ok k.sets.spot) refl plain_name k.sets.wrote in
      let state = kept_state old new w k.sets.spot k.kept (same.variables.vars ∙ k.sets.vars) (same.variables.cells ∙ k.sets.cells) (same.own ∙ own) (same.units ∙ units) (same.depth ∙ depth) (same.events ∙ writes) in
      let kept = sym written ∙ ap (λ s. done k.kept s) state in
      runs_as
      (sym (ap (λ a. bind (of_answer a st) (keep name)) k.given ∙ bind_done (k.text, k.kept) st (keep name) ∙ ap (λ m. bind m (λ x s1. ok k.text s1)) kept ∙ bind_done k.kept (state_of new w) (λ x s1. ok k.text s1)))
      (answers_as p.0 (done_runs {a = plain k.text} {shows = as_result} told (same.events ∙ writes) (last-pushed (under n old.values.store.stack) new.values.store.stack k.text (p.1 ∙ k.stack), refl)))
  kept_runs (Err kind) r h own units depth writes same p q =
      let unchanged : SameState old new = record {
        variables = record { vars = same.variables.vars ∙ h.same.vars; cells = same.variables.cells ∙ h.same.cells };
        own = same.own ∙ own;
        units = same.units ∙ units;
        depth = same.depth ∙ depth;
        events = same.events ∙ writes;
      } in
      refused_as (row (variable_seen (naming (bytes_of name)) old.values.vars old.values.store.cells)) n old.values.store mid.values.store (keep name) as_result kind r old new w here told unchanged h.refuses q

module _ (row : Variable → VarAnswer) (n : ℕ) (name : Naming) (old mid : Holdings) where
  pub kept_stack : (done_with : Result (Unit {0}) CmdFault) (r : Result (Unit {0}) End) (now : List Text) → Changes row n name old mid done_with →
      OnOk done_with ((r ≡ Ok tt) × (now ≡ mid.store.stack)) → IfErr done_with (λ kind. EndsRefused kind mid.store.stack r now) → PushesResult (under n old.store.stack) r now
  kept_stack (Ok t) r now h p q = results_stack n old.store.stack h.keeps.text r mid.store.stack now h.keeps.stack p.0 p.1
  kept_stack (Err kind) r now h p q = refused_stack (row (variable_seen name old.vars old.store.cells)) n old.store mid.store kind r now h.refuses q

  pub kept_reply : (done_with : Result (Unit {0}) CmdFault) → Changes row n name old mid done_with → IfErr done_with (λ kind. HasReply kind mid.store.stack)
  kept_reply (Ok t) h = tt
  kept_reply (Err kind) h = has_reply (row (variable_seen name old.vars old.store.cells)) n old.store mid.store kind h.refuses

-- ---- without words

module _ {W : Type 0} (c : CellCommand) (call : Text) (old mid new : (Machine W)) (w : World) (here : Outer) (told : here.told ≡ Some w) (same : SameState old new) where
  alone_by : (done_with : Result (Unit {0}) CmdFault) (r : Result (Unit {0}) End) → replies.VarAnswers (row_of c call [] Unset) var.NoName 0 old.values.store mid.values.store done_with →
      IfErr done_with (λ kind. EndsRefused kind mid.values.store.stack r new.values.store.stack) →
      Runs (bind (of_answer (row_of c call [] Unset) (state_of old w)) (keep [])) as_result (start old w here.torn) r new here
  alone_by (Ok t) r h q = absurd (no_gives (row_of c call [] Unset) (h.gives.text, h.gives.kept) (alone_refused c call) h.gives.given)
  alone_by (Err kind) r h q = refused_as (row_of c call [] Unset) 0 old.values.store mid.values.store (keep []) as_result kind r old new w here told same h.refuses q

  pub alone_runs : (args : List Text) (done_with : Result (Unit {0}) CmdFault) (r : Result (Unit {0}) End) → args ≡ [] → replies.VarAnswers (row_of c call args Unset) var.NoName 0 old.values.store mid.values.store done_with →
      IfErr done_with (λ kind. EndsRefused kind mid.values.store.stack r new.values.store.stack) →
      Runs (bind (of_answer (row_of c call args Unset) (state_of old w)) (keep [])) as_result (start old w here.torn) r new here
  alone_runs args done_with r e h q =
      let P : List Text → Type 0 = λ ws. replies.VarAnswers (row_of c call ws Unset) var.NoName 0 old.values.store mid.values.store done_with in
      runs_as (ap (λ ws. bind (of_answer (row_of c call ws Unset) (state_of old w)) (keep [])) (sym e)) (alone_by done_with r (subst P e h) q)

alone_on : {W : Type 0} → (c : CellCommand) (call : Text) (args : List Text) (st : (State W)) → args ≡ [] → bind (of_answer (row_of c call args Unset) st) (keep []) ≡ on_variable (named args) (row_of c call args) st
alone_on c call args st e =
    ap (λ ws. bind (of_answer (row_of c call ws Unset) st) (keep [])) e
    ∙ ap (λ a. bind (of_answer a st) (keep [])) (sym (alone_same c call (variable_seen (naming (bytes_of [])) st.tables.vars st.tables.texts)))
    ∙ ap (λ ws. on_variable (named ws) (row_of c call ws) st) (sym e)

pub none_behind : (stack : List Text) → top 0 stack ≡ []
none_behind stack = drop_all (length stack - 0) stack (omega arith)

-- the words of a call, as the row has them
words_row : {W : Type 0} → (row : Text → List Text → Variable → VarAnswer) (stack : List Text) (n : ℕ) (st : (State W)) → 0 < n → n ≤ length stack →
    on_variable (named (top (n - 1) stack)) (row (replies.call_word (n - 1) stack) (top (n - 1) stack)) st ≡ cell_row row (top n stack) st
words_row row stack n st some l =
    ap (λ call. on_variable (named (top (n - 1) stack)) (row call (top (n - 1) stack)) st) (call_is stack n some l)
    ∙ ap (λ ws. on_variable (named ws) (row (call_word (top n stack)) ws) st) (arguments_are stack n some l)

pub alone_row : {W : Type 0} → (c : CellCommand) (stack : List Text) (st : (State W)) → 1 ≤ length stack →
    bind (of_answer (row_of c (replies.call_word 0 stack) (top 0 stack) Unset) st) (keep []) ≡ cell_row (row_of c) (top 1 stack) st
alone_row c stack st l = alone_on c (replies.call_word 0 stack) (top 0 stack) st (none_behind stack) ∙ words_row (row_of c) stack 1 st (omega arith) l

pub named_row : {W : Type 0} → (c : CellCommand) (stack : List Text) (n : ℕ) (st : (State W)) → 1 < n → n ≤ length stack →
    on_variable (get_or stack (length stack - (n - 1)) []) (row_of c (replies.call_word (n - 1) stack) (top (n - 1) stack)) st ≡ cell_row (row_of c) (top n stack) st
named_row c stack n st some l =
    ap (λ ws. on_variable (named ws) (row_of c (replies.call_word (n - 1) stack) (top (n - 1) stack)) st) (sym (drop_more stack (length stack - (n - 1)) [] (omega (arith, some, l))))
    ∙ words_row (row_of c) stack n st (omega (arith, some)) l

pub alone_stack : (row : VarAnswer) (old mid : View) (done_with : Result (Unit {0}) CmdFault) (r : Result (Unit {0}) End) (now : List Text) → replies.VarAnswers row var.NoName 0 old mid done_with →
    OnOk done_with ((r ≡ Ok tt) × (now ≡ mid.stack)) → IfErr done_with (λ kind. EndsRefused kind mid.stack r now) → PushesResult (under 0 old.stack) r now
alone_stack row old mid (Ok t) r now h p q = results_stack 0 old.stack h.gives.text r mid.stack now h.gives.stack p.0 p.1
alone_stack row old mid (Err kind) r now h p q = refused_stack row 0 old mid kind r now h.refuses q

pub alone_reply : (row : VarAnswer) (old mid : View) (done_with : Result (Unit {0}) CmdFault) → replies.VarAnswers row var.NoName 0 old mid done_with → IfErr done_with (λ kind. HasReply kind mid.stack)
alone_reply row old mid (Ok t) h = tt
alone_reply row old mid (Err kind) h = has_reply row 0 old mid kind h.refuses

-- ---- a name that isn't built yet

grown_stack : (base mid now more : List Text) (e : End) → mid ≡ base ++ more → KeepsStack {T = Unit {0}} mid (Err e) now → PushesResult {T = Unit {0}} base (Err e) now
grown_stack base mid now more (end.Left l) g h =
    let longer : length base ≤ length mid = omega (arith, ap length g, length-append base more) in
    record { kept = take-under base mid now longer h.kept (ap (take (length base)) g ∙ take-append_seam base more); some = omega (arith, longer, h.some) }
grown_stack base mid now more end.Budget g h = tt
grown_stack base mid now more (end.Exit n) g h = tt
grown_stack base mid now more end.Device g h = tt
grown_stack base mid now more end.Memory g h = tt

-- a refusal that isn't want of memory
abbrev pub HasMessage : CmdFault → Type 0
HasMessage fault.NoMemory = ⊥
HasMessage kind = Unit {0}

module _ (row : VarAnswer) (k : ℕ) (before after : View) where
  by_message : (kind : CmdFault) → HasMessage kind → replies.IsRefused row kind k before after → replies.Declines row kind k before after
  by_message fault.NoMemory m h = absurd m
  by_message fault.WrongArgs m h = h
  by_message fault.Message m h = h

  -- the refusal and the result of a call, by what it answered
  pub declined_words : (variable : VarState) (kind : CmdFault) (r : Result (Unit {0}) CmdFault) → HasMessage kind → r ≡ Err kind → replies.VarAnswers row variable k before after r → replies.Declines row kind k before after
  declined_words variable kind r m e h = let P : Result (Unit {0}) CmdFault → Type 0 = λ x. IfErr x (λ f. replies.IsRefused row f k before after) in by_message kind m (subst P e h.refuses)

  pub changed_words : (variable : VarState) (r : Result (Unit {0}) CmdFault) → r ≡ Ok tt → replies.VarAnswers row variable k before after r → replies.Changes row variable k before after
  changed_words variable r e h = let P : Result (Unit {0}) CmdFault → Type 0 = λ x. OnOk x (replies.Changes row variable k before after) in subst P e h.gives

  pub unbuilt_stack : (kind : CmdFault) (e : End) (now : List Text) → replies.Declines row kind k before after → KeepsStack {T = Unit {0}} after.stack (Err e) now → PushesResult {T = Unit {0}} (under k before.stack) (Err e) now
  unbuilt_stack kind e now d h = grown_stack (under k before.stack) after.stack now (d.message ∷ d.code ∷ []) e d.stack h

  pub unbuilt_given : (variable : VarState) (e : End) (now : List Text) → replies.Changes row variable k before after → KeepsStack {T = Unit {0}} after.stack (Err e) now → PushesResult {T = Unit {0}} (under k before.stack) (Err e) now
  unbuilt_given variable e now d h = grown_stack (under k before.stack) after.stack now (d.text ∷ []) e d.stack h

second_is : (base stack : List Text) (message code : Text) → stack ≡ base ++ message ∷ code ∷ [] → second_of stack ≡ message
second_is base stack message code e =
    let below = base ++ message ∷ [] in
    let two : stack ≡ below ++ code ∷ [] = e ∙ sym (append_assoc base (message ∷ []) (code ∷ [])) in
    let many : length stack ≡ length base + 2 = ap length e ∙ length-append base (message ∷ code ∷ []) in
    let place : length stack - 2 ≡ length base = omega (arith, many) in
    ap (λ k. get_or stack k []) place ∙ ap (λ s. get_or s (length base) []) two
    ∙ get_or-append below (code ∷ []) [] (length base) (omega (arith, length-append base (message ∷ [])))
    ∙ get_or_push base message [] (length base) refl

-- the message of an array, as the code makes it
pub array_message : (first name : Text) → first ≡ name → text_of CannotReadArray first (chars []) ≡ text_of CannotReadArray name []
array_message first name e = ap (λ t. text_of CannotReadArray t (chars [])) e ∙ ap (text_of CannotReadArray name) chars-nil

-- what the refusal of a whole array does, by whether its message is the array's
module _ (name : Text) (row : VarAnswer) (k : ℕ) (before after : View) (kind : CmdFault) (d : replies.Declines row kind k before after) where
  message_is : (b : Bool) → b ≡ is_of_array name (second_of after.stack) → is_of_array name d.message ≡ b
  message_is b e = ap (is_of_array name) (sym (second_is (under k before.stack) after.stack d.message d.code d.stack)) ∙ sym e

  pub comes_to_variable : {W : Type 0} → (st : (State W)) → true ≡ is_of_array name (second_of after.stack) → not_built st ≡ unbuilt name row st
  comes_to_variable st e = sym (ap (λ a. unbuilt name a st) d.refused ∙ cond-true _ _ _ (message_is true e))

  pub refused_before : {W : Type 0} → (e : End) (old new : (Machine W)) (w : World) (here : Outer) → here.told ≡ Some w → SameState old new → false ≡ is_of_array name (second_of after.stack) →
      BecomesError after.stack e new.values.store.stack → Runs {T = Unit {0}} (unbuilt name row (state_of old w)) as_result (start old w here.torn) (Err e) new here
  refused_before e old new w here told same other b =
      runs_as (sym (ap (λ a. unbuilt name a (state_of old w)) d.refused ∙ cond-false _ _ _ (message_is false other)))
      (raise_runs {A = Outcome} {T = Unit {0}} {shows = as_result} old told same
      (raises_as _ _ _ _ new.values.store.stack e (message_below (under k before.stack) after.stack d.message d.code d.stack) (code_on_top (under k before.stack) after.stack d.message d.code d.stack) b.0))

  pub refused_under : (e : End) (now : List Text) → BecomesError after.stack e now → PushesResult {T = Unit {0}} (under k before.stack) (Err e) now
  refused_under e now b = let P : List Text → Type 0 = λ base. KeepsStack {T = Unit {0}} base (Err e) now in subst P (under_reply (under k before.stack) after.stack d.message d.code d.stack) b.1

-- ---- a variable by its name

pub on_built : {W : Type 0} → (name : Text) (row : Variable → VarAnswer) (st : (State W)) → is_unbuilt (bytes_of name) ≡ false →
    bind (of_answer (row (variable_seen (naming (bytes_of name)) st.tables.vars st.tables.texts)) st) (keep name) ≡ on_variable name row st
on_built name row st h = sym (cond-false _ _ _ h)

pub on_unbuilt : {W : Type 0} → (bs : List ℕ) (name : Text) (row : Variable → VarAnswer) (st : (State W)) → bs ≡ bytes_of name → is_unbuilt bs ≡ true → unbuilt name (row WholeArray) st ≡ on_variable name row st
on_unbuilt bs name row st e h = sym (cond-true _ _ _ (sym (ap is_unbuilt e) ∙ h))
