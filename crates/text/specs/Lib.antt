-- Texts as lists of bytes, and their laws.
pub mod Text
pub mod Laws
