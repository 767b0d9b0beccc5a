pub mod Chunks
pub mod Meeting
pub mod Cuts
pub mod Rules
