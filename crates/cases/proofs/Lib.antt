pub mod Climbing
pub mod ElementLists
pub mod Filling
pub mod Reading
pub mod Sizing
pub mod Spelling
