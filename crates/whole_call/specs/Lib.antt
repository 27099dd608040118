-- Theorems on whole calls.
pub mod Whole
pub mod Counting
pub mod Codes
pub mod Ending
pub mod Reads
