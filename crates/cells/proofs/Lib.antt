pub mod Records
pub mod Rectangles
pub mod Cutting
