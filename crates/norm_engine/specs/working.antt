pub mod FirstRow
pub mod DatagramJudgment
pub mod RecordJudgment
pub mod EngineAnswers
pub mod FrameReports
