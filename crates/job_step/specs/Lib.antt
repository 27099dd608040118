-- The definitions that the contracts of `job_step` cite, and their laws.
pub mod Step
pub mod Laws
