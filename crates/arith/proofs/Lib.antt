-- The toolkit, from the ring laws up; docs/PROOFS.md shows each tool.
pub mod Choose
pub mod Laws
pub mod Ring
pub mod Quote
pub mod Parts
pub mod Order
pub mod Tests
pub mod Cert
pub mod Quot
pub mod Size
pub mod Interval
pub mod Ends
pub mod Range
pub mod Fits
pub mod Sweep
pub mod Tour
