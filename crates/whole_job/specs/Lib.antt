-- Theorems on jobs that are stopped and resumed.
pub mod Back
pub mod Damage
pub mod Fits
pub mod Shown
pub mod Resume
pub mod Own
pub mod Call
