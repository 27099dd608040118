-- The definitions that the contracts of `holdamek` cite beside those of the crates below it.
pub mod Lent
