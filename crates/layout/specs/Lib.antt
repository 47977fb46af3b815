-- What an inspector reads, in the order of 01, "The element rows": the mark that a row's hop and length are taken from; the rows of a trie
-- level by level; the same rows by a queue of blocks; the record and lists that one accepted build leaves; the blocks on an address's
-- path, one by one; 01's run, the eight-prefix table and 02's discarded corner as examples.
pub mod Marks
pub mod Blocks
pub mod Order
pub mod Laid
pub mod PathBlocks
pub mod ExampleRows
