-- The definitions that the contracts of `delay_step` cite, and their laws.
pub mod Step
pub mod Laws
