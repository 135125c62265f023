pub mod Steps
pub mod Switching
pub mod Parameters
pub mod Arguments
pub mod Codes
pub mod Returns
pub mod Handlers
