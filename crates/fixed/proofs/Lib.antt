-- Theorems that rest on what sharpening is.
pub mod Laws
