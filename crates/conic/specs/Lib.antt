-- From globe to map, from map to globe, and what holds of them.
pub mod Conic
pub mod MapToGlobe
pub mod Values
pub mod Laws
