-- The words of the contracts of this crate.
pub mod Tree
pub mod Rank
pub mod Cells
pub mod Layout
pub mod Pairs
pub mod Enter
pub mod Strike
pub mod Walk
pub mod Find
pub mod Carry
pub mod Theorems
pub mod Laws
