-- What the frame call hands up, by the rules of change request 12 and by the call that gives delays alone.
pub mod Same
