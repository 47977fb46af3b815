-- What the calls that the vector programs share promise: the sizes of the rooms; a decimal number in a text; the word that begins
-- a line; rows of three numbers, and the lengths of the lists they are for; a table's line, which is made of them; a line that
-- makes a table of rising entries itself; the four element lists of a line, and the rows that it gives for them; and that the lists lent
-- for a table or for element rows are still the caller's. No promise of the library's own calls rests on these.
pub mod Limits
pub mod Numerals
pub mod Words
pub mod Triples
pub mod Lists
pub mod Tables
pub mod Rising
pub mod Elements
pub mod Lent
