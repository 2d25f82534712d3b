-- The words of the contracts of this crate.
pub mod Codes
pub mod Boxes
pub mod Values
