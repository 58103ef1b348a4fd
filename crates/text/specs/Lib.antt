-- The text that the programs read and write: numbers in decimal, the lines that are printed, a tap's line, and what holds of them.
pub mod Decimals
pub mod Lines
pub mod TapLines
pub mod Coordinates
pub mod Laws
