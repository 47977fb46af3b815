-- What an inspector reads, in the order of 01: the limits, the build's promise.
pub mod Limits
pub mod Build
-- What only the inside needs: what the functions that write element rows ask and give, and the one that goes on from a plan.
pub mod Filling
pub mod FromPlan
