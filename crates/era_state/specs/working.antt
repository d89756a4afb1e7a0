pub mod FirstSyns
pub mod StoredOffsets
pub mod ScaleChanges
pub mod WarmChanges
