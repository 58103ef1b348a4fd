-- 32-bit numbers in bytes, and their laws.
pub mod Numbers
pub mod Laws
