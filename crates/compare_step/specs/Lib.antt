-- The comparison with a far decoder, which the contracts of `compare_step` cite, and laws of it.
pub mod Slots
pub mod Compare
pub mod Laws
