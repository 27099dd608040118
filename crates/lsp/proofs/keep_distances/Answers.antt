-- The answers of `lsp::keep_distances`.
use mathlib.Core.Path.{◌∙◌}
use mir.Syntax.{w16}
use mir.Facts.{to_z-of_z}
use Rattle.laws.specs.Loops.{run, run_none, write, ended_from}
use Rattle.laws.specs.Back.{via2}
use Rattle.lsp.specs.Lsp.{keep_distance}
use native.Mathlib.Omega.{arith}
use Rattle.std.proofs.Common.{rules}
use Rattle.lsp.proofs.keep_distances.Goals as goal

pub loop-k-preserved : goal.loop-k-preserved
loop-k-preserved c = (
  search rules,
  write _ _ _ _ _ _ c.loop-k.invariant.1
      (via2 w16 w16 w16 (keep_distance _) _ _ c.keep_distance.result c.keep_distance-arg-1.given c.keep_distance-arg-in-loop-k-1.given c.keep_distance.type_inv c.keep_distance.ensures),
)

pub returns : goal.returns
returns c = ended_from (run _ _) 9 c.loop-k.invariant.1 (omega arith) ∙ rw (to_z-of_z c.ranges.distance)

pub loop-k-init : goal.loop-k-init
loop-k-init c = (search rules, run_none _ _ _)
