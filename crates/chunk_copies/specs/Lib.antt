pub mod Boxes
pub mod Placing
