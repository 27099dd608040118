-- The definitions that the contracts of `rule` cite, their laws, and the theorem on them.
pub mod Rule
pub mod Laws
pub mod Determined
