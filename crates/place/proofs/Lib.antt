-- The laws of names, and of the check of a place.
pub mod Fields
pub mod NameLaws
pub mod PlaceVerdicts
pub mod GoodPlaces
