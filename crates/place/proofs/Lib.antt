pub mod CodeLaws
pub mod BoxLaws
pub mod SmallestLaws
pub mod SideLaws
