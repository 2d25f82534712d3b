pub mod Calls
pub mod Totals
pub mod Stands
pub mod Finds
pub mod Heights
pub mod Walks
pub mod Tallies
pub mod Removal
