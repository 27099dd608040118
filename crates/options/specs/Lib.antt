-- The definitions that the contracts of `options` cite, their laws, and lines with what they ask for.
pub mod Options
pub mod Laws
pub mod Lines
