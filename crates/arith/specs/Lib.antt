-- Bounds of whole numbers, as contracts and statements cite them. The laws are in proofs/.
pub mod Bounds
