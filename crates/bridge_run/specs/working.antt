pub mod FaultStops
pub mod RuleCounts
pub mod LoadTally
pub mod RunParts
pub mod PartEnds
