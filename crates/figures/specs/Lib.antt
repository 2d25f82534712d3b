-- The words of the contracts of this crate.
pub mod Figures
