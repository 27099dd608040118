-- The proof of specs/Rules.antt.
pub mod Rules
