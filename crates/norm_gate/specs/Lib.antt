pub mod Fates
pub mod GateHistory
pub mod GateLaws
pub mod GateState
pub mod working
