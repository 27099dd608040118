-- What `mix` computes, what it claims of any order of the legs and of the limit, and the laws that the proofs cite.
pub mod Mix
pub mod Laws
pub mod Order
pub mod Limit
