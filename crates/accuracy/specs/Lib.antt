-- The exact value that demand 3 holds globe to map against, demand 3, and how tight it is.
pub mod Exact
pub mod Accuracy
pub mod Tight
