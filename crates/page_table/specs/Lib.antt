pub mod Places
pub mod Holes
pub mod Table
pub mod Chunk
