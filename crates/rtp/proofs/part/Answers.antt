-- `rtp::part` meets its contract: the part lies within the payload.
use native.Mathlib.Omega.{arith}
use Rattle.rtp.specs.Laws.{ends, part_of, place_of}
use Rattle.rtp.proofs.part.Goals as goal

pub overflow_add-end : goal.overflow_add-end
overflow_add-end c = omega (arith, ends _ _ c.find-found.ensures)

pub slice_bounds-result-end : goal.slice_bounds-result-end
slice_bounds-result-end c = omega (arith, ends _ _ c.find-found.ensures)

pub returns : goal.returns
returns c = (part_of _ _ c.find-found.ensures, place_of _ _ _ c.find-found.ensures)
