-- The words of the contracts of this crate.
pub mod Trees
pub mod Rolls
pub mod Steps
