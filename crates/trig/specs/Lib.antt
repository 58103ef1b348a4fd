-- What angle, sine, cosine and root are, and the laws of them.
pub mod Trig
pub mod Row
pub mod Laws
pub mod Exact
