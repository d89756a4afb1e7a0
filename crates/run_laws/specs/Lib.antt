pub mod CaptureReadBack
pub mod AuditedRuns
pub mod ViewedRuns
pub mod ViewEvidence
pub mod MeetingReceivers
