-- The definitions that the contracts of `plc` cite.
pub mod Kinds
