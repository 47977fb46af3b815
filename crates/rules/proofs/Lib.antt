-- The laws behind the gathering and the links, those of single tables and of sums over all tries, and those of tries laid at a place.
pub mod Sums
pub mod Gathering
pub mod Links
pub mod Planning
pub mod Splitting
pub mod Lending
pub mod Standing
pub mod Steps
pub mod Whole
-- The demands over a build of rules.
pub mod Deciding
pub mod Actions
pub mod RuleTests
pub mod Meaning
pub mod Unique
pub mod Demands
