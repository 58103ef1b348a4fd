-- Demand 3: from globe to map, from map to globe and forth again, and how tight it is.
pub mod SheetAngle
pub mod NearExact
pub mod Accuracy
pub mod Returned
pub mod BackAndForth
pub mod Tightness
