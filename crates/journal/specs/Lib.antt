-- The words of the contracts of this crate.
pub mod Faults
pub mod Heading
pub mod Layout
pub mod Lines
pub mod Padded
pub mod Records
pub mod Written
