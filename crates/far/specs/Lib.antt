-- The definitions that the contracts of `far` cite, and their laws.
pub mod Far
pub mod Laws
