-- `conference::put_all` meets its contract: each word has room.
use Rattle.std.proofs.Common.{◌*◌, ◌≤◌}
use Rattle.conference.proofs.put_all.Given as goal

abbrev pub invariant-loop-i : goal.invariant-loop-i
invariant-loop-i l = l.at ≤ 4096 * l.i
