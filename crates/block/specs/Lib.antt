-- The definitions that the contracts of `block` cite, their laws, and the places of a frame's buffers.
pub mod Block
pub mod Laws
pub mod Places
