pub mod PlainLines
pub mod ClapCommands
