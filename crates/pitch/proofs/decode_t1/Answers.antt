-- `pitch::decode_t1` meets its contract. Assumes nothing.
use Prim.Native.Nat.{◌<◌}
use mathlib.Core.Path.{◌∙◌}
use lib.Bits.{bit_and, and_mask, mask_lt}
use Rattle.pitch.specs.Laws.{t1_thirds, t1_whole}
use Rattle.std.proofs.Common.{rules}
use Rattle.pitch.proofs.decode_t1.Goals as goal
use Rattle.pitch.proofs.decode_t1.Goals.{Then-p-lt197}

-- what is tested are the eight low bits of P1
tested : (c : Then-p-lt197) → bit_and c.args.p1 255 < 197
tested c = c.if-p-lt197.true

pub returns-then-p-lt197 : goal.returns-then-p-lt197
returns-then-p-lt197 c = c.in_thirds.ensures ∙ t1_thirds _ _ _ (and_mask _ 8) (tested c.before.before) c.third-q.ensures

pub returns : goal.returns
returns c = c.in_thirds-2.ensures ∙ t1_whole _ _ (and_mask _ 8) c.if-p-lt197.false

pub in_thirds-requires-2 : goal.in_thirds-requires-2
in_thirds-requires-2 c = search (rules, mask_lt c.args.p1 8)
