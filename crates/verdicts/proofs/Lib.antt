pub mod Answers
pub mod Sources
pub mod Visits
pub mod Unique
pub mod Classified
pub mod Alone
