-- The definitions that the contracts of `replay` cite, and their laws.
pub mod Replay
pub mod Laws
