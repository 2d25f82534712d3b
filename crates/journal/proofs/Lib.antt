-- The lemmas that this crate's proofs share.
pub mod PaddedLaws
pub mod Fronts
pub mod Letters
pub mod Digits
