-- What the functions give and store.
pub mod Stored
