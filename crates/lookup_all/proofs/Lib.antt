-- The laws of the answer, and what the functions need.
pub mod Answers
pub mod Nearness
pub mod Positions
