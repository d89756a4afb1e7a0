pub mod Live
pub mod working
