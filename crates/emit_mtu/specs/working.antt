pub mod PartSizes
pub mod CutterState
