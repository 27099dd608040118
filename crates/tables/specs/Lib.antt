-- The table block and the tables by formula, which the contracts of `tables` cite.
pub mod Layout
pub mod Laws
pub mod Formula
pub mod Rules
