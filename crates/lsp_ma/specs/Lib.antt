-- What the prediction of the frequencies computes.
pub mod Ma
