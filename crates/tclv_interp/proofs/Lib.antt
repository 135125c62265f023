pub mod ArrayLemmas
pub mod BuiltinLemmas
pub mod CommandLemmas
pub mod CountLemmas
pub mod InterpreterLemmas
pub mod ProcInfoLemmas
pub mod ProcLemmas
