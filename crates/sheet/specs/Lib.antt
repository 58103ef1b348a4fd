-- What a sheet is, its checks, what is on it, the laws of that, and document 01's example.
pub mod Sheets
pub mod Laws
pub mod Samples
