-- Laws that the proofs of `state` share.
pub mod Parts
