-- The laws of the order and of the nearest place, and what the loop over a table needs.
pub mod Sizes
pub mod Order
pub mod FirstOfList
pub mod WithinReach
pub mod Answers
pub mod NearestLaws
pub mod Turns
