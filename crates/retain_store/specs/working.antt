pub mod BlockCells
pub mod PoolChanges
