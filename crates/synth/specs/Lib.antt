-- The definitions that the contracts of `synth` cite, and laws of them.
pub mod Synth
pub mod Laws
pub mod FastLaws
