pub mod Values
pub mod Points
pub mod VarBoxes
pub mod Splits
pub mod Strips
pub mod Within
pub mod Padded
