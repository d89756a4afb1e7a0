pub mod PlainHeaders
