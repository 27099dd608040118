-- The definitions that the contracts of `words` cite, and their laws.
pub mod Words
pub mod Laws
