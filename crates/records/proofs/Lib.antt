-- The laws of records, and what the functions' proofs share.
pub mod KindBytes
pub mod SheetRecords
pub mod PlaceRecords
pub mod Answers
