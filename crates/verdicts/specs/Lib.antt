-- What an inspector reads, in the order of 02, [6]: limits, the list of tries, the verdicts, the rule in 02's sentences (meaning), and five rules
-- classified by computation.
pub mod Limits
pub mod Tries
pub mod Cases
pub mod Verdicts
pub mod Meaning
pub mod Examples
-- The rule as a function (exact), which the meaning does without.
pub mod Classify
-- What only the code needs.
pub mod Visiting
