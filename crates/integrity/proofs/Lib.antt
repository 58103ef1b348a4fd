-- What an accepted file is, and what follows.
pub mod RunReads
pub mod Accepted
pub mod Shown
pub mod Rooms
pub mod Returns
pub mod Cuts
pub mod Lengths
pub mod Stands
