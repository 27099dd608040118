-- The definitions that the contracts of `pack` cite, the laws that proofs over them use, and the claims on both calls, which proofs/Undo.antt proves.
pub mod Pack
pub mod Laws
pub mod Writing
