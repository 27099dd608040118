-- Theorems that rest on what a call of the playout answers.
pub mod Laws
pub mod Depth
