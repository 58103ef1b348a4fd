-- The nearest place to a tap, and the laws of it.
pub mod Taps
pub mod Laws
