-- `g711_leg::reading::put_lines` meets its contract: no more is taken than there is, and a line has at most 327 bytes.
use Rattle.std.proofs.Common.{◌*◌, ◌≤◌, length}
use Rattle.g711_leg.proofs.reading.put_lines.Given as goal

abbrev pub invariant-loop : goal.invariant-loop
invariant-loop l = (l.taken ≤ length l.bytes) × (l.written ≤ 327 * l.counter)
