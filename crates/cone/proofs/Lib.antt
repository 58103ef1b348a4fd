-- The laws of the cone, and what the functions' proofs share.
pub mod ConeAngles
pub mod Sizes
pub mod Directions
pub mod Halving
pub mod Cuts
pub mod Settling
