-- `job::names::folder` meets its contract: no `/` stands from i on.
use Rattle.std.proofs.Common.{◌≡◌, ◌≤◌, length, take}
use Rattle.job.specs.Names.{folder}
use Rattle.job.proofs.names.folder.Given as goal

abbrev pub invariant-loop-i : goal.invariant-loop-i
invariant-loop-i l = (l.i ≤ length l.path) × (folder l.path ≡ folder (take l.i l.path))
