-- What an inspector reads, in the order of 01: limits, element rows, the answers and their numbers, tests in order, the rule in 01's
-- sentences (meaning), and 01's run, 02's discarded corner, lengths as they are found and the ends of the level limit as examples.
pub mod Limits
pub mod Rows
pub mod Answers
pub mod Refusals
pub mod Meaning
pub mod Examples
-- The rule as a function (exact), which the meaning does without; and how the code keeps the best so far.
pub mod Lookup
pub mod Packed
pub mod Lent
pub mod Told
pub mod Cases
