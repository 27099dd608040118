-- The definitions that the contracts of `bitstream` cite, and the laws that proofs over them use.
pub mod Fields
pub mod Laws
