-- Theorems that rest on how a delay is told in thirds.
pub mod Undo
