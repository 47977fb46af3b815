-- Laws by notion: writing, the values, the answers, a sheet solved, the run, its room, and its meaning.
pub mod Writing
pub mod Placing
pub mod Queries
pub mod Solutions
pub mod Runs
pub mod Room
pub mod Meaning
