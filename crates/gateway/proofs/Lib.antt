pub mod Writing
pub mod Zeros
pub mod Numbers
pub mod Unique
pub mod OneTable
pub mod Corner
