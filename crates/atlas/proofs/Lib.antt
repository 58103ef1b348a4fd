-- What the proofs of the crate's functions cite, and the laws of its specs/.
pub mod FilePlaces
pub mod PlacesInTurn
pub mod BufferParts
pub mod WriterReplies
pub mod RoundTrips
pub mod Answers
