-- There are as many kinds as frames.
use Rattle.std.proofs.Common.{◌≡◌, length}
use Rattle.depths_files.proofs.rows.print_rows.Given as goal

abbrev pub invariant-loop : goal.invariant-loop
invariant-loop l = length l.kinds ≡ length l.initial.kinds
