-- The answers of `lsp::spread`.
use mathlib.Core.Path.{◌∙◌}
use mir.Facts.{to_z-of_z}
use Rattle.laws.specs.Loops.{steps, steps_none, steps_turn, ended_from}
use Rattle.lsp.specs.Lsp.{enforce_spacing}
use native.Mathlib.Omega.{arith}
use Rattle.std.proofs.Common.{rules}
use Rattle.lsp.proofs.spread.Goals as goal

pub loop-k-preserved : goal.loop-k-preserved
loop-k-preserved c = (search rules, steps_turn _ _ _ _ _ c.loop-k.invariant.1 c.spread_pair.ensures)

pub returns : goal.returns
unfolding enforce_spacing
returns c = ended_from (steps _) 9 c.loop-k.invariant.1 (omega arith) ∙ rw (to_z-of_z c.ranges.spacing)

pub loop-k-init : goal.loop-k-init
loop-k-init c = (search rules, steps_none _ _)
