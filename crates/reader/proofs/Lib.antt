-- The loop over the records.
pub mod Turns
