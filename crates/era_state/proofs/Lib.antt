pub mod Quantities
pub mod Eras
pub mod SameNumbers
pub mod Offsets
pub mod Frames
pub mod EmittedSegments
pub mod Worked
