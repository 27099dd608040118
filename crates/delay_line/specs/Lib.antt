-- The definitions that the contracts of `delay_line` cite, and their laws: a row reads back, and thirds tell a delay.
pub mod DelayLine
pub mod Laws
pub mod Undo
