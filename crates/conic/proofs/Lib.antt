-- What holds of globe to map and of map to globe, and what the functions' proofs share.
pub mod Answers
pub mod Ranges
pub mod Answered
pub mod Mirrored
pub mod OwnSheet
pub mod Distance
