-- The laws, by notion: a tree in scratch rows, one entry more, a whole table and its counts; costs, pass by pass, and the fixed choice; the
-- tests; a plan, and what a chooser answers.
pub mod Frames
pub mod Shapes
pub mod Inserting
pub mod LevelCounts
pub mod Making
pub mod Counts
pub mod Gathering
pub mod Pricing
pub mod Settling
pub mod FixedChoice
pub mod ChooseTests
pub mod PlanRows
pub mod Plans
pub mod Choosing
