-- A frame's parameters, which the contracts of `parameters` cite; Parts opens them all.
pub mod Parameters
pub mod Parts
