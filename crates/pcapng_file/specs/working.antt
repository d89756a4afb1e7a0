pub mod OptionFacts
pub mod ContentFaults
pub mod BlockFronts
pub mod PartReading
pub mod SectionLinks
pub mod BlockReading
