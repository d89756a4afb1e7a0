pub mod Places
pub mod Members
pub mod Receivers
pub mod Monitors
pub mod Streams
pub mod PlainPackets
pub mod Parts
