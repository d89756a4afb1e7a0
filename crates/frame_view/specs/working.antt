pub mod SegmentHeaders
pub mod ReadingShapes
