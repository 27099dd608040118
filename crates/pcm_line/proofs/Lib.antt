-- Theorems that rest on which texts are lines of samples.
pub mod Laws
pub mod Undo
