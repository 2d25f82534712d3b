pub mod CountLaws
pub mod SquareLaws
pub mod RegionLaws
pub mod DiscLaws
pub mod CrossingLaws
