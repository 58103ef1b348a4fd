-- The laws of the answer, and what callers read of the contracts.
pub mod Answers
