-- What an inspector reads, in the order of 01 ("The tablet program"), after what a text says (reading): the report's keys and numbers; a
-- sheet's entries as values of a table; the report's lines; the answers; a sheet solved; the whole run; what its report means, with no
-- reading in it; and answers of 01's run as examples.
pub mod Keys
pub mod Limits
pub mod Values
pub mod Printing
pub mod Answers
pub mod Solved
pub mod Tablet
pub mod Meaning
pub mod Examples
-- What only the code and the proofs need: what is known of the queries that are lent on, and of the build over what the program lends.
pub mod Lent
