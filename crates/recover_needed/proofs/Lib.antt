-- What specs/Needed.antt states, proved.
pub mod Witness
