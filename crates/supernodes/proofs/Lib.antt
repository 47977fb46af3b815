-- Ranges and the sides of a node; the nodes in scratch rows, by preorder and by links; the queue; one supernode's places, row and hops;
-- the rows of all; the tests up to 6; the build's steps and what its promise means; that this leaves one result.
pub mod Sides
pub mod Growing
pub mod Linking
pub mod Lining
pub mod Spots
pub mod Marking
pub mod Filing
pub mod Fitting
pub mod BitmapSteps
pub mod Unique
pub mod Demands
