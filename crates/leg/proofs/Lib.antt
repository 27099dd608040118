-- Theorems that rest on what a refusal leaves.
pub mod Laws
pub mod Undo
