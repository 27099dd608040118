-- The definitions that the contracts of `pcm_line` cite, their laws, and that a line that is written reads back.
pub mod PcmLine
pub mod Laws
pub mod Undo
