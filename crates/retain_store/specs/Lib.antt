pub mod Maps
pub mod PoolBlocks
pub mod working
