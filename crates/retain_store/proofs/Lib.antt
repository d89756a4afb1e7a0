pub mod Blocks
pub mod Counts
pub mod Cells
pub mod Parts
pub mod Fronts
pub mod Room
pub mod Segments
