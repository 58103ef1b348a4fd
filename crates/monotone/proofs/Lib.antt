-- Rows of factors, then sine and cosine.
pub mod Rows
pub mod Monotone
