-- What the contracts of `depths_files` cite.
pub mod Held
pub mod Rows
pub mod Laws
