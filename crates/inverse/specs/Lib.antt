-- The inverse of synthesis, and its laws; that it gives the excitation of every subframe whose samples are inside their range is in proofs/.
pub mod Inverse
pub mod Laws
pub mod Subframe
pub mod Window
