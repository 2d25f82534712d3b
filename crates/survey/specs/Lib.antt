-- The words of the contracts of this crate.
pub mod Samples
pub mod Enclosing
pub mod Printed
