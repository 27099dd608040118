-- `g711_leg::reading::pass`: what is at hand stays inside.
use Rattle.source.specs.Source.{Inside}
use Rattle.g711_leg.proofs.reading.pass.Given as goal

abbrev pub invariant-loop : goal.invariant-loop
invariant-loop l = Inside l.p.source 65536
