-- The definitions that the contracts of `payload_line` cite, their laws, and what is claimed of the lines printed.
pub mod PayloadLine
pub mod Laws
pub mod Lines
pub mod Read
