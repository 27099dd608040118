-- The definitions that the contracts of `leg_frame` cite, and their laws.
pub mod LegFrame
pub mod Laws
