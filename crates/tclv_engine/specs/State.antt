-- The state that a script runs in.
use Rattle.std.specs.Prelude.{ℕ, ◌+◌, List, length}
use Rattle.std.specs.Ordering.{nat_cmp}
use Rattle.std.specs.FinMap.{FinMap}
use Rattle.tclv_io.specs.World.{World}
use Rattle.tclv_io.specs.Events.{Event, after_all}
use Rattle.tclv_vars.specs.Table.{Table}
use Rattle.tclv_engine.specs.Surroundings.{Surroundings, surroundings_of}
use Rattle.tclv_engine.specs.declared.machine.Machine.{Machine}

-- code points
abbrev pub Text : Type 0
Text = List ℕ

-- The tables of a run: the variables, with the cells that they stand for; the texts of the cells, by their numbers; and the tables that the
-- commands keep of their own, which no evaluation reads.
pub record RunTables (W : Type 0) : Type 0 where
  pub vars : Table
  pub texts : FinMap nat_cmp Text
  pub own : W

-- A state has the tables; what scripts see of the world; the number of events so far; the units left; and the number of the current evaluation,
-- which is 0 outside of all evaluations.
pub record State (W : Type 0) : Type 0 where
  pub tables : RunTables W
  pub surroundings : Surroundings
  pub events : ℕ
  pub units : ℕ
  pub depth : ℕ

-- the tables of a machine
abbrev pub tables_of : {W : Type 0} → Machine W → RunTables W
tables_of a = record { vars = a.values.vars; texts = a.values.store.cells; own = a.own }

-- the state of a machine over a world
abbrev pub state_of : {W : Type 0} → Machine W → World → State W
state_of a w = record { tables = tables_of a; surroundings = surroundings_of w; events = a.writes; units = a.units; depth = a.depth }

-- ---- reading a state

abbrev pub variables_in : {W : Type 0} → State W → Table
variables_in st = st.tables.vars

abbrev pub texts_in : {W : Type 0} → State W → FinMap nat_cmp Text
texts_in st = st.tables.texts

abbrev pub own_in : {W : Type 0} → State W → W
own_in st = st.tables.own

-- ---- replacing a part of it: all else stays

abbrev pub with_variables : {W : Type 0} → Table → FinMap nat_cmp Text → State W → State W
with_variables vars texts st = record st { tables = record st.tables { vars = vars; texts = texts } }

abbrev pub with_own : {W : Type 0} → W → State W → State W
with_own own st = record st { tables = record st.tables { own = own } }

-- these events happened
abbrev pub with_events : {W : Type 0} → List Event → State W → State W
with_events events st = record st {
  surroundings = record st.surroundings { out = after_all st.surroundings.out events };
  events = st.events + length events;
}
