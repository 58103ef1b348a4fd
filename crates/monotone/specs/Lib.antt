-- That the computed sine rises and the computed cosine falls.
pub mod Laws
