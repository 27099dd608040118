-- `compare_step::next_clean` meets its contract: each test picks its case.
use native.Mathlib.Omega.{arith}
use borrow.Author.Tests.{ltb-true, lt-ltb}
use mir.Facts.{to_z-of_z}
use lib.IntN.{ℤ, pos, negsuc, ◌+ℤ◌}
use lib.Signed.{mag, lt_z}
use mathlib.Core.Path.{◌≡◌, ◌∙◌}
use Prim.Native.Nat.{zero, suc, ◌<◌}
use mathlib.Core.Bool.{true}
use Rattle.compare_step.specs.Compare.{next_clean}
use Rattle.compare_step.proofs.next_clean.Goals as goal

pub returns-then-not-told : goal.returns-then-not-told
unfolding next_clean
returns-then-not-told c = rw (c.if-not-told.true)

more : (z : ℤ) → lt_z z (pos 2) ≡ true → mag z < 32768 → mag (z +ℤ pos 1) < 32768
more (pos n) e h = let q = ltb-true n 2 e in omega arith
more (negsuc zero) e h = omega arith
more (negsuc (suc n)) e h = rw (lt-ltb 1 (suc (suc n)) (omega arith)) (omega arith)

pub overflow_add-result : goal.overflow_add-result
overflow_add-result c =
    let e = to_z-of_z c.ranges.c in
    record { sfits = rw e (more c.args.c (rw e at c.if-c-lt2.true) c.ranges.c.sfits) }

pub returns-then-c-lt2 : goal.returns-then-c-lt2
unfolding next_clean
returns-then-c-lt2 c =
    let e = to_z-of_z c.ranges.c in
    to_z-of_z (overflow_add-result c) ∙ rw (e, c.if-not-told.false, rw e at c.if-c-lt2.true)

pub returns-else-c-lt2 : goal.returns-else-c-lt2
unfolding next_clean
returns-else-c-lt2 c =
    rw (c.if-not-told.false, rw (to_z-of_z c.ranges.c) at c.if-c-lt2.false)
