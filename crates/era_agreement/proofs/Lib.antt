pub mod Streams
pub mod Acks
pub mod TwoEras
