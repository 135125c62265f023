pub mod Replies
pub mod Shown
pub mod Places
pub mod Options
pub mod Names
pub mod Variables
pub mod Comparing
