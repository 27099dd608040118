-- What specs/Run.antt, specs/Demand.antt, specs/Gap.antt and specs/Values.antt claim, proved; claims/Proof.antt gathers it.
pub mod Ranges
pub mod Runs
pub mod Agree
pub mod Compute
pub mod Witness
pub mod Seeds
pub mod Gap
pub mod States
pub mod GapWitness
pub mod PulsesWitness
pub mod GapClaims
pub mod Values
