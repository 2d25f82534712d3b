-- The words of the contracts of this crate.
pub mod Faults
pub mod Weights
pub mod Lines
pub mod Steps
pub mod Entries
pub mod Runs
