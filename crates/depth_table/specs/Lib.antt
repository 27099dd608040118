-- The definitions that the contracts of `depth_table` cite, and their laws.
pub mod Table
pub mod Laws
