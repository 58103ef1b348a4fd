-- Two answers of a lookup never share a reply.
pub mod Answers
