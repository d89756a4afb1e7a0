pub mod PlainLines
