pub mod Copies
pub mod Placings
pub mod Takings
