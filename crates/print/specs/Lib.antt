-- The definitions that the contracts of `print` cite, and their laws.
pub mod Print
pub mod Laws
