pub mod FrameParts
pub mod Readings
pub mod Flows
pub mod Changes
pub mod ReadingLaws
pub mod working
