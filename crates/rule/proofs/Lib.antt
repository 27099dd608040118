-- Theorems that rest on what the first subframe's rule is.
pub mod Determined
