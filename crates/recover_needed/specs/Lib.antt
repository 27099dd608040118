-- That the conditions of Recovery can be met, and which of them are shown to be needed: the statement is Needed.
pub mod Quiet
pub mod Needed
