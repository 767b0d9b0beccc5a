pub mod LaneRecords
pub mod LaneSums
pub mod Passes
pub mod Regions
pub mod Steps
