-- The worked examples: the starred cases as one table, cases 11 and 12, taps, lists and the crowding report.
pub mod Examples
pub mod Files
pub mod Tables
pub mod Printed
pub mod Lists
pub mod Reaches
