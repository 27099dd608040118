-- Theorems that rest on which delay a line of a table begins with.
pub mod Whole
