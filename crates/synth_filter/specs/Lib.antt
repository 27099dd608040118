-- The definitions that the contracts of `synth_filter` cite, and laws of them.
pub mod Filter
pub mod Laws
pub mod Fast
pub mod FastLaws
pub mod Pairs
