-- The laws behind the promise, by notion.
pub mod Rules
pub mod Runs
pub mod Tables
pub mod Chain
pub mod Nearest
pub mod Top
pub mod Example
