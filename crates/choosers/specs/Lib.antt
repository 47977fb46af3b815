-- What an inspector reads, in the order of 01: limits, the two kinds, the choosers' promise.
pub mod Limits
pub mod Kinds
pub mod Chooser
-- What a builder reads besides: the scratch rows and their columns, and the promise of a plan.
pub mod Scratch
pub mod Plans
-- What only the inside needs: the trie in the rows (a tree that names its rows, one entry more, a whole table), costs and levels.
pub mod Trees
pub mod Inserting
pub mod LevelCounts
pub mod Making
pub mod Costs
pub mod Columns
pub mod FixedChoice
pub mod Answered
