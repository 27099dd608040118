-- Definitions and laws of `g711`.
pub mod G711
pub mod Law
pub mod Values
pub mod Undo
pub mod Fast
pub mod Laws
