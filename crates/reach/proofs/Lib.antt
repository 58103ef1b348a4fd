-- The laws of the list, and what the loops need.
pub mod Insertion
pub mod Sorted
pub mod Listing
pub mod FirstListed
pub mod Positions
pub mod Slots
pub mod Shifting
pub mod Counting
pub mod Filling
