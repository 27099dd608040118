-- Laws that the proofs of `inverse` share, and theorems that rest on what the inverse, its samples and its windows are.
pub mod Parts
pub mod Window
pub mod Laws
pub mod Subframe
