-- Theorems that rest on which numbers refuse a call, how it ends, and how it is read.
pub mod Codes
pub mod Ending
pub mod ReadsProof
