-- Laws by notion: how numbers are written; reading (keys, digits, a line, what every line keeps, lists, the whole text); a text and its
-- sheet (the text of a sound sheet is good, a good text is the text of its sheet, any other has one first bad line); a text's first
-- bytes; and what the call hands back.
pub mod Numerals
pub mod Keys
pub mod Digits
pub mod Reading
pub mod Steps
pub mod Taking
pub mod Stopping
pub mod Listing
pub mod Whole
pub mod Spelled
pub mod ReadBack
pub mod Sound
pub mod FirstLines
pub mod Following
pub mod FirstBad
pub mod FirstBytes
pub mod Holding
