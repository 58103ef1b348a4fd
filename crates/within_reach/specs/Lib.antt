-- The list of places in a table that the caller lends, and its laws.
pub mod Lists
pub mod Laws
