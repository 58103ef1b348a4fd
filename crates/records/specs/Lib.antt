-- The records of an atlas file, and their laws.
pub mod Records
pub mod Laws
