-- What the two programs print, by what they read, and what holds of it.
pub mod Listing
pub mod Tapping
pub mod Laws
