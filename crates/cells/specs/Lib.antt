pub mod Array
pub mod Cells
pub mod Records
pub mod Rects
