pub mod Averages
pub mod Enumeration
