-- The definitions that the contracts of `source` cite.
pub mod Source
