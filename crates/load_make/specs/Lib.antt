pub mod NumberSequence
pub mod Flows
pub mod Packets
pub mod LoadRecords
pub mod LoadState
pub mod working
