pub mod ReadBack
pub mod Audits
pub mod Traces
pub mod RunItems
pub mod Unsided
pub mod Views
pub mod Evidence
pub mod Meeting
