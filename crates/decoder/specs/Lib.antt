-- The frame and the frame call, which the contracts of `decoder` cite, and laws of both.
pub mod Frame
pub mod Call
pub mod Laws
