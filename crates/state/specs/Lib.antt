-- The state block and the fresh state, which the contracts of `state` cite, laws of both, and what `==` says of parts of blocks.
pub mod State
pub mod Laws
pub mod Same
