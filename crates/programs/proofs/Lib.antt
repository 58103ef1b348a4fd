-- The laws of what is printed.
pub mod Listings
pub mod Answering
pub mod InReach
pub mod FirstBytes
