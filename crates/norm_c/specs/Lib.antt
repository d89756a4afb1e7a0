pub mod Exports
pub mod Held
pub mod Numbers
pub mod Opening
pub mod working
