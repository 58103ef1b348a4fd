-- The laws of the step, and of reading step by step.
pub mod ByVerdict
pub mod Views
pub mod Turns
pub mod Moves
pub mod ReadsOn
pub mod Answers
