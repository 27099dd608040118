-- The definitions that the contracts of `compare_turn` cite, and their laws.
pub mod Turn
pub mod Laws
