-- The laws of the crowding report, and what its loops need.
pub mod Others
pub mod AsTheLister
pub mod AsBefore
