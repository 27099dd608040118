-- The definitions that the contracts of `read_step` cite, and their laws.
pub mod Reading
pub mod Laws
