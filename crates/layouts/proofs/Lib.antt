pub mod Cuts
pub mod Layouts
pub mod Meeting
