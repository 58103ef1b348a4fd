-- The laws of numbers in bytes, and of bytes put into a list.
pub mod Bits
pub mod NumberLaws
pub mod Puts
