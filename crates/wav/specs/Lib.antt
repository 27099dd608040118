-- The definitions that the contracts of `wav` cite, and their laws.
pub mod Wav
pub mod Laws
pub mod Undo
