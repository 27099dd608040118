-- Theorems that rest on what a state file gives back.
pub mod Resume
