-- `compare_step::next_count` meets its contract: each test picks its case.
use native.Mathlib.Omega.{arith}
use mir.Facts.{to_z-of_z}
use lib.IntN.{ℤ, pos, negsuc, ◌+ℤ◌}
use lib.Signed.{mag, lt_z}
use mathlib.Core.Path.{◌≡◌, ◌∙◌}
use Prim.Native.Nat.{zero, suc, ◌<◌}
use borrow.Author.Tests.{ltb-true, lt-ltb}
use mathlib.Core.Bool.{true}
use Rattle.compare_step.specs.Compare.{next_count}
use Rattle.compare_step.proofs.next_count.Goals as goal

pub returns-then-n-parity : goal.returns-then-n-parity
unfolding next_count
returns-then-n-parity c = rw (rw (to_z-of_z c.ranges.n) at c.if-n-parity.true)

more : (z : ℤ) → lt_z z (pos 32767) ≡ true → mag z < 32768 → mag (z +ℤ pos 1) < 32768
more (pos n) e h = let q = ltb-true n 32767 e in omega arith
more (negsuc zero) e h = omega arith
more (negsuc (suc n)) e h = rw (lt-ltb 1 (suc (suc n)) (omega arith)) (omega arith)

pub overflow_add-result : goal.overflow_add-result
overflow_add-result c =
    let e = to_z-of_z c.ranges.n in
    record { sfits = rw e (more c.args.n (rw e at c.if-n-lt32767.true) c.ranges.n.sfits) }

pub returns-then-n-lt32767 : goal.returns-then-n-lt32767
unfolding next_count
returns-then-n-lt32767 c =
    let e = to_z-of_z c.ranges.n in
    to_z-of_z (overflow_add-result c) ∙ rw (e, rw e at c.if-n-parity.false, rw e at c.if-n-lt32767.true)

pub returns-else-n-lt32767 : goal.returns-else-n-lt32767
unfolding next_count
returns-else-n-lt32767 c =
    let e = to_z-of_z c.ranges.n in
    e ∙ rw (rw e at c.if-n-parity.false, rw e at c.if-n-lt32767.false)
