-- The definitions that the contracts of `job` cite, and their laws.
pub mod Job
pub mod Part
pub mod Names
pub mod Laws
pub mod PartLaws
