-- The definitions that the contracts of `pitch` cite, the laws of their ranges, and values of them.
pub mod Pitch
pub mod Laws
pub mod Values
