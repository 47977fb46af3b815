-- What the program promises.
pub mod Printed
pub mod Stopping
