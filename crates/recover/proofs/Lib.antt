-- What specs/Recovery.antt, specs/Sound.antt and specs/Faults.antt claim, proved.
pub mod Runs
pub mod SoundProof
