-- The words of the contracts of this crate.
pub mod Faults
pub mod Shapes
pub mod DiscTests
pub mod BandLemmas
