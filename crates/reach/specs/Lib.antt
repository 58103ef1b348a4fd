-- The places within the reach of a tap, in order: the list, its laws, and inner steps.
pub mod Lists
pub mod Laws
pub mod Inner
