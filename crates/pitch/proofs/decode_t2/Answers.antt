-- `pitch::decode_t2` meets its contract. Assumes nothing.
use mathlib.Core.Path.{◌≡◌, ◌∙◌, ap}
use Prim.Native.Nat.{◌+◌, ◌/◌, ◌<◌}
use lib.Bits.{bit_and, and_mask, mask_lt}
use mir.Facts.{to_z-of_z}
use Rattle.pitch.specs.Pitch.{t_min}
use Rattle.pitch.specs.Laws.{t2_thirds}
use Rattle.std.proofs.Common.{rules}
use Rattle.pitch.proofs.decode_t2.Goals as goal
use Rattle.pitch.proofs.decode_t2.Goals.{After-t_min-least, After-third-q, Start}

-- the five low bits are below 32, at the start and behind both calls
low : (c : Start) → bit_and c.args.p2 31 < 32
low c = mask_lt c.args.p2 5

behind : (c : After-t_min-least) → bit_and c.args.p2 31 < 32
behind c = low c.before.before

-- what a third is taken of are the five low bits of P2, and 2
quotient : (c : After-third-q) → c.third-q.result ≡ (bit_and c.args.p2 31 + 2) / 3
quotient c = c.third-q.ensures

pub returns : goal.returns
returns c =
    c.in_thirds.ensures ∙ t2_thirds _ _ _ _ _ (and_mask _ 5) (quotient c.before.before) (c.t_min-least.ensures ∙ ap t_min (to_z-of_z c.ranges.t1))

pub overflow_add-p : goal.overflow_add-p
overflow_add-p c = search (rules, low c)

pub third-q-requires : goal.third-q-requires
third-q-requires c = search (rules, low c)

pub overflow_add-q : goal.overflow_add-q
overflow_add-q c = search (rules, behind c)

pub overflow_sub-q : goal.overflow_sub-q
overflow_sub-q c = search (rules, behind c)

pub overflow_add-p-2 : goal.overflow_add-p-2
overflow_add-p-2 c = search (rules, behind c)

pub overflow_mul-q : goal.overflow_mul-q
overflow_mul-q c = search (rules, behind c)

pub overflow_sub-p : goal.overflow_sub-p
overflow_sub-p c = search (rules, behind c)

pub in_thirds-requires : goal.in_thirds-requires
in_thirds-requires c = search (rules, behind c)
