pub mod Rings
pub mod NodeLinks
pub mod SoundTable
pub mod ListingRings
pub mod FoldedNumbers
