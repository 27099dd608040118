-- A frame leaves an accepted state, and its lists have the lengths of a state block.
pub mod Lengths
pub mod Accepted
