-- The definitions that the contracts of `lpc` cite, and laws of them.
pub mod Lpc
pub mod Laws
pub mod Small
