-- What an inspector reads, in the order of 02, [6]: the limit, rules and their check, which rule wins; runs of one destination and the
-- tables of the tries; then an example with more than one of everything.
pub mod Limits
pub mod Rules
pub mod Winning
pub mod Runs
pub mod Example
pub mod Lent
