-- The definitions that the contracts of `rtp` cite, their laws, and what is claimed of a payload's frames.
pub mod Rtp
pub mod Laws
pub mod Payload
pub mod Parts
