-- The words of the contracts of this crate.
pub mod Faults
pub mod Fields
pub mod Journals
pub mod Lines
pub mod Numbers
pub mod Texts
