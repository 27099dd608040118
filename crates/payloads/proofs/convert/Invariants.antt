-- What is held fits the input.
use Rattle.std.proofs.Common.{◌≤◌}
use Rattle.payloads.proofs.convert.Given as goal

abbrev pub invariant-loop : goal.invariant-loop
invariant-loop l = (l.p.from ≤ l.p.to) × (l.p.to ≤ 131071)
