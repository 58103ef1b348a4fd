-- What the crowding report prints, by what it reads, and what holds of it.
pub mod Crowding
pub mod Laws
pub mod Before
