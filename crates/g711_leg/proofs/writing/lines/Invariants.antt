-- `g711_leg::writing::lines`: what is at hand stays inside.
use Rattle.source.specs.Source.{Inside}
use Rattle.g711_leg.proofs.writing.lines.Given as goal

abbrev pub invariant-loop : goal.invariant-loop
invariant-loop l = Inside l.p.source 65536
