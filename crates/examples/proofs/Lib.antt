-- The worked examples hold.
pub mod Hold
pub mod Read
pub mod Stored
pub mod Printed
pub mod Lists
pub mod Reaches
