-- `rule::first_rule` meets its contract: each test picks its case of the definition.
use Prim.Native.Nat.{◌<◌, ◌≤◌}
use mathlib.Core.Path.{sym, ◌∙◌}
use lib.Bits.{bit_and, and_mask}
use borrow.Author.Tests.{lt-ltb, le-ltb}
use Rattle.rule.specs.Rule.{first_rule}
use Rattle.rule.proofs.first_rule.Goals as goal
use Rattle.rule.proofs.first_rule.Goals.{Else-p1-lt197, Then-p1-lt197}

pub returns-then-not-parity_ok : goal.returns-then-not-parity_ok
unfolding first_rule
returns-then-not-parity_ok c = rw (sym c.parity_ok.ensures ∙ c.if-not-parity_ok.true)

-- what is tested are the eight low bits of P1
below : (c : Then-p1-lt197) → bit_and c.args.p1 255 < 197
below c = c.if-p1-lt197.true

above : (c : Else-p1-lt197) → 197 ≤ bit_and c.args.p1 255
above c = c.if-p1-lt197.false

pub returns-then-p1-lt197 : goal.returns-then-p1-lt197
unfolding first_rule
returns-then-p1-lt197 c =
    let p1 = c.args.p1 in
    rw (sym c.parity_ok.ensures ∙ c.if-not-parity_ok.false, ← and_mask p1 8, lt-ltb (bit_and p1 255) 197 (below c))

pub returns : goal.returns
unfolding first_rule
returns c =
    let p1 = c.args.p1 in
    rw (sym c.parity_ok.ensures ∙ c.if-not-parity_ok.false, ← and_mask p1 8, le-ltb (bit_and p1 255) 197 (above c))
