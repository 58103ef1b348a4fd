-- The laws of the refusals' numbers and of refusals in order.
pub mod Distinct
pub mod InOrder
