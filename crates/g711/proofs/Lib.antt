-- Theorems that rest on which byte comes back.
pub mod Laws
pub mod Undo
