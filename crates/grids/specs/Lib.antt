pub mod Coordinates
pub mod Ends
pub mod Tiles
