-- The cone, what settles the offset of a map point at once, and the laws.
pub mod Cone
pub mod Settled
pub mod Laws
