-- The definitions that the contracts of `basic_op` cite, and the laws that proofs over them use.
pub mod Ops
pub mod Oper32b
pub mod Laws
pub mod Norm
pub mod Low
pub mod Product
pub mod Log
pub mod Values
