-- What an inspector reads, in the order of 02 [1]: rows of supernodes in lent lists; what one accepted build leaves there; the rule in
-- 02's sentences (meaning); examples.
pub mod Rows
pub mod Lent
pub mod Winner
pub mod Laid
pub mod Meaning
pub mod Examples
-- The rule as a function (exact), which the meaning does without.
pub mod Lookup
