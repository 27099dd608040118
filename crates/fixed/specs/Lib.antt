-- The definitions that the contracts of `fixed` cite, their values, the laws that the proofs use, and the period of the draws.
pub mod Fixed
pub mod Values
pub mod Laws
pub mod Draws
pub mod Period
