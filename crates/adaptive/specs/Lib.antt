-- The definitions that the contracts of `adaptive` cite, and their laws; Fast and FastLaws are what src/fast.rt rests on.
pub mod Adaptive
pub mod Laws
pub mod Fast
pub mod FastLaws
