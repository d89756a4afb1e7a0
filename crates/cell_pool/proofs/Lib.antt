pub mod Bits
pub mod FreeCells
pub mod Owners
pub mod Chains
pub mod Pools
pub mod Runs
pub mod KnownChains
