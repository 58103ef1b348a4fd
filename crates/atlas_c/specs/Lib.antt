-- What the C functions give and write, and what holds of sheets that go in and out as bytes.
pub mod Given
pub mod Laws
