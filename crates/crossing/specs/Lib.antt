-- The words of the contracts of this crate.
pub mod Counting
pub mod Regions
pub mod Discs
pub mod Laws
