-- The answers of `compare_turn::turn`.
use mathlib.Core.Path.{◌≡◌}
use mathlib.Core.Bool.{cond}
use Prim.Native.Nat.{◌+◌, ◌-◌}
use native.Mathlib.Omega.{arith}
use lib.ListN.{length}
use Rattle.compare_turn.specs.Turn.{Within}
use Rattle.compare_turn.specs.Laws.{falls}
use Rattle.std.proofs.Common.{rules}
use Rattle.compare_turn.proofs.turn.Goals as goal

pub loop-going-smaller : goal.loop-going-smaller
loop-going-smaller c =
    falls _ _ _ _ c.loop-going-test.true c.more-next.ensures.0 c.more-next.ensures.1.line

pub loop-going-preserved : goal.loop-going-preserved
loop-going-preserved c =
    let w = c.more-next.ensures.1 in (
      record { line = w.line; frame = w.frame; written = omega (arith, w.written, c.loop-going.invariant.2); printed = omega (arith, w.printed, c.loop-going.invariant.3) },
      search rules,
      search rules,
      search rules,
    )
