-- What `playout` computes, what it claims of a greater depth and of the arrivals, and the laws that the proofs cite.
pub mod Playout
pub mod Laws
pub mod Depth
pub mod Arrivals
pub mod Least
pub mod Values
