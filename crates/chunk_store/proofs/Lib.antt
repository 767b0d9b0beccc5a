pub mod Loops
pub mod Pieces
pub mod ChunkRecords
pub mod FirstChunks
pub mod Held
pub mod Placed
pub mod Summed
