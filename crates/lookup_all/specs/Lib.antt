-- The positions of a file's places within the reach of a tap.
pub mod Positions
pub mod Laws
