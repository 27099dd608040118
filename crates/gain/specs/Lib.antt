-- The definitions that the contracts of `gain` cite, and the laws that the proofs use.
pub mod Gain
pub mod Laws
