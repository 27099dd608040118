-- Theorems on tables of delays.
pub mod Whole
pub mod Back
