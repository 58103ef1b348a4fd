-- The laws of angle, sine, cosine and root, and what the functions' proofs share.
pub mod Answers
pub mod Mirror
pub mod Sizes
pub mod Roots
pub mod Row
pub mod NearAngle
pub mod Circle
pub mod Spread
pub mod PowerSeries
pub mod ExactErrors
