-- The refusals' numbers, what comes back to a caller, refusals in order, and the laws of that.
pub mod Numbers
pub mod Rules
pub mod Laws
