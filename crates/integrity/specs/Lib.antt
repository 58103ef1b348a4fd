-- What holds of atlas files.
pub mod Integrity
