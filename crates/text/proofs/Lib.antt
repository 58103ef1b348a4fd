-- Digits and the lines made of them, numbers and coordinates that are read, and what holds of the line of a tap.
pub mod Digits
pub mod Printed
pub mod Spelled
pub mod Building
pub mod Reading
pub mod Coordinates
pub mod TapLaws
pub mod Answers
