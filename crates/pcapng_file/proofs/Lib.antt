pub mod Contents
pub mod Options
pub mod BlockReads
pub mod Bodies
pub mod Fronts
pub mod Sections
