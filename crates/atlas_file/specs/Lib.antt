-- The reader's step, what reading and writing a file come to, and what holds of them.
pub mod Steps
pub mod Reading
pub mod Writing
pub mod Laws
