-- The lemmas of this crate.
pub mod CellLaws
pub mod NodeLaws
pub mod RollLaws
pub mod JoinLaws
pub mod QuestionLaws
pub mod ShapeLaws
pub mod ValidLaws
pub mod RunLaws
