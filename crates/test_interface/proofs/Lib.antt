-- What the functions store, read back from its bits.
pub mod Bits
