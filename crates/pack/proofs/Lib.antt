-- What specs/Writing.antt claims, proved.
pub mod Undo
