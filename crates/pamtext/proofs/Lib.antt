-- The lemmas that this crate's proofs share.
pub mod Yielding
pub mod NumberLaws
pub mod FieldLaws
pub mod LineLaws
pub mod JournalLaws
pub mod SameTexts
pub mod SameJournals
