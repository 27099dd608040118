-- What the functions of the LSF decoder compute, and the laws that their proofs cite.
pub mod Lsp
pub mod Laws
