pub mod Segments
pub mod Walks
pub mod Buffers
pub mod CleanedAreas
