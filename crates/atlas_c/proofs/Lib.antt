-- What is known of a sheet that came as bytes, and of answers that are set one behind the other.
pub mod SheetIn
pub mod Answers
