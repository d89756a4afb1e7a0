pub mod HeaderFields
pub mod QuotedPacket
