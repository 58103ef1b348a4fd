-- What a name is, and when a place is refused.
pub mod Names
pub mod Places
pub mod Laws
