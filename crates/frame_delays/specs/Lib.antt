-- The definitions that the contracts of `frame_delays` cite, and their laws.
pub mod Delays
pub mod Laws
