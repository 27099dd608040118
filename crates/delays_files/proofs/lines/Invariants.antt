-- `delays_files::lines`: what is at hand stays inside.
use Rattle.source.specs.Source.{Inside}
use Rattle.delays_files.proofs.lines.Given as goal

abbrev pub invariant-loop : goal.invariant-loop
invariant-loop l = Inside l.p.source 65536
