-- What is at hand stays inside, and the arrivals have room.
use Rattle.depths_files.specs.Held.{Held}
use Rattle.depths_files.proofs.reading.lines.Given as goal

abbrev pub invariant-loop : goal.invariant-loop
invariant-loop l = Held l.p 65536
