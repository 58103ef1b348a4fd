-- The laws of sheets, and what the functions' proofs share.
pub mod Answers
pub mod Limits
pub mod Shifted
pub mod Positions
pub mod Meridians
pub mod Fields
pub mod Angles
