pub mod TwoPackets
pub mod Premises
