-- What the lines that several programs share leave of their text and of their table. (What they print has no definition: the reference says
-- what it must be.)
pub mod Lines
