pub mod FirstChunks
pub mod Frames
pub mod Loaded
pub mod Pieces
pub mod Summaries
