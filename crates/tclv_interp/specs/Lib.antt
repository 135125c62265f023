pub mod Procedures
pub mod Builtins
pub mod ProcRows
pub mod ProcInfoRows
pub mod Commands
pub mod Counts
pub mod Interpreters
