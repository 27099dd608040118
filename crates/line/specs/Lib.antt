-- The definitions that the contracts of `line` cite, and their laws.
pub mod Line
pub mod Write
pub mod Laws
pub mod Undo
