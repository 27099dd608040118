-- `adaptive::adaptive_vector` meets its contract. Assumes nothing.
use mathlib.Core.Path.{◌∙◌, ap}
use native.Mathlib.Omega.{arith}
use mir.Facts.{to_z-of_z}
use Rattle.adaptive.specs.Adaptive.{phase}
use Rattle.adaptive.specs.Laws.{places, vector_is}
use Rattle.adaptive.proofs.adaptive_vector.Goals as goal

pub vector-requires : goal.vector-requires
vector-requires c = places _ _ _ _ _ c.lag-k.ensures c.phase.ensures (omega (arith, c.exc_start-from.ensures.lower_bound)) c.exc_start-from.ensures.upper_bound

pub returns : goal.returns
returns c =
    vector_is _ _ _ _ _ _ _ _ _ c.exc_start-from.ensures.value
    (c.lag-k.ensures ∙ rw (to_z-of_z c.ranges.t0, to_z-of_z c.ranges.frac))
    (c.phase.ensures ∙ ap phase (to_z-of_z c.ranges.frac)) c.vector.ensures
