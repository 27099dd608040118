-- The definitions that the contracts of `leg` cite, their laws, and that a printed leg gives its bytes back.
pub mod Leg
pub mod Laws
pub mod Undo
