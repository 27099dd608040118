-- The definitions that the contracts of `line_step` cite, and their laws.
pub mod Step
pub mod Laws
