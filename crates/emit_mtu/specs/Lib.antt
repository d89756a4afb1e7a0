pub mod FrameParts
pub mod LongFrames
pub mod Segments
pub mod CutLaws
pub mod CutStreams
pub mod working
