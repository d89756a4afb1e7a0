pub mod FlowBounds
pub mod RecordPayloads
pub mod FlowsBefore
