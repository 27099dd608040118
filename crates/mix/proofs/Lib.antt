-- Theorems that rest on what the sum is, and what a call answers.
pub mod Laws
pub mod Limit
pub mod Order
