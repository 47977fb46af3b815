-- The laws, by notion: what stands in scratch rows; the rows below a node, of a level, of all levels; from a plan to the build's promise,
-- that it leaves one result, and the bureau's demands.
pub mod Standing
pub mod Filling
pub mod Leveling
pub mod Laying
pub mod BuildSteps
pub mod Unique
pub mod Demands
