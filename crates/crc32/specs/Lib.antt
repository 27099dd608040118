-- The definitions that the contracts of `crc32` cite, and their laws.
pub mod Crc32
pub mod Laws
