-- What an inspector reads: the numbers of a scratch row, and the build's promise.
pub mod Limits
pub mod Build
-- What only the inside needs: the table as a trie by ranges of neighbours, its
-- nodes in scratch rows, the supernodes in their queue, the links of one's places, its row and hops, the rows and hops of all, and a
-- table that fits its scratch.
pub mod Spans
pub mod Linked
pub mod Waiting
pub mod Spots
pub mod Marking
pub mod Filing
pub mod Fitting
