-- The definitions that the contracts of `call` cite, and their laws.
pub mod Call
pub mod Chunk
pub mod Laws
