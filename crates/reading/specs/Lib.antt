-- What an inspector reads, in the order of 01 ("The tablet program"): the keys and the numbers of the text; how numbers are written; a
-- sheet, which is what a good text says; the text that says it; the first bad line of any other; what the call that reads a text hands
-- back; and 01's own run as a text.
pub mod Keys
pub mod Limits
pub mod Numerals
pub mod Sheet
pub mod Spelling
pub mod FirstBad
pub mod Contents
pub mod Examples
-- What only the code and the proofs need, the reading's own notions: one line and where the next begins, the lines of the entries and
-- the queries, and the whole text as it is read, by which the call's answer is said as a function.
pub mod Lines
pub mod Taking
pub mod Entries
pub mod Text
