pub mod Header
pub mod Stored
pub mod Written
pub mod Reads
