-- What a table holds after a file is read into it, and a buffer after a file is written into it.
pub mod Tables
pub mod Buffers
pub mod Laws
