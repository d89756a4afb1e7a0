pub mod TwoEngines
pub mod RelayState
pub mod RecordEffects
pub mod FrameAnswers
