-- Laws that the proofs of `compare_step` share.
pub mod Parts
