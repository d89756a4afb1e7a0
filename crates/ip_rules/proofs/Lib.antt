pub mod Rules
pub mod Lists
pub mod Datagrams
