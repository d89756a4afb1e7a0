pub mod EntryTable
pub mod RingWalks
pub mod NodeColumns
pub mod TableEntries
pub mod Listing
pub mod Hashes
pub mod LentValues
pub mod working
