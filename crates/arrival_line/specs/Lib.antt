-- The definitions that the contracts of `arrival_line` cite, their laws, that the digits of two numbers read back, and lines.
pub mod ArrivalLine
pub mod Laws
pub mod Undo
pub mod Lines
