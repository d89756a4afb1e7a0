pub mod Frames
pub mod Headers
pub mod Segments
pub mod PlainPackets
pub mod Streams
pub mod Acks
