pub mod FaultCounts
pub mod ReadAhead
pub mod BufferedOctets
