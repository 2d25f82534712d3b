-- The words of the contracts of this crate.
pub mod Sums
pub mod Spans
pub mod Pairs
pub mod PairsLemmas
pub mod SpansLemmas
pub mod SumsLemmas
