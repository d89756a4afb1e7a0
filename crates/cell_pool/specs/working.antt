pub mod SoundLinks
pub mod PackedOctets
