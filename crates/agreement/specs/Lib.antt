-- Demand 3, demand 2 on a whole call, two decoders through a gap, the values of the stages' definitions, and all of them as one promise.
pub mod Demand
pub mod Run
pub mod Gap
pub mod Values
pub mod Claims
