-- Laws of the program: a read into the rest of a page; from the page to the whole text.
pub mod InPlace
pub mod Whole
