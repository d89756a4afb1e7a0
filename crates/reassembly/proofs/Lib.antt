pub mod Rules
pub mod Entries
pub mod Pieces
pub mod Order
pub mod Offers
pub mod Identifications
pub mod Datagrams
pub mod Limits
