-- What comes back of a file that is asked for a place.
pub mod Lookups
pub mod Laws
