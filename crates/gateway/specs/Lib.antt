-- What a caller in C reads: the numbers of each answer; what the choosers and builds may answer and leave; the batch; and 02's example
-- of a discard.
pub mod Numbers
pub mod Allowed
pub mod Batch
pub mod Lent
pub mod Corner
