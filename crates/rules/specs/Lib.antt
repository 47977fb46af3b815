-- What an inspector reads: the build's promise, and what it decides.
pub mod Build
pub mod Deciding
-- What only the inside needs: the destinations gathered from the rules and the links between their tries.
pub mod Gathering
pub mod Splitting
pub mod Laying
pub mod Building
pub mod Tables
