-- The definitions that the contracts of `kind` cite, and their laws.
pub mod Kind
pub mod Laws
