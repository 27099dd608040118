-- All that this crate claims, a row each: the promise of `agreement::claims`.
use Rattle.agreement.specs.Demand.{Demand3, ParityNeeded, AcceptedAfter, AnyOutput}
use Rattle.agreement.specs.Run.{Demand2}
use Rattle.agreement.specs.Gap.{Gap, BesideGap}
use Rattle.agreement.specs.Values.{Values}

pub record Claims : Type 0 where
  pub demand_2 : Demand2
  pub demand_3 : Demand3
  pub parity_needed : ParityNeeded
  pub accepted_after : AcceptedAfter
  pub any_output : AnyOutput
  pub gap : Gap
  pub beside_gap : BesideGap
  pub values : Values
