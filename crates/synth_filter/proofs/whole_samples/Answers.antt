-- The answers of `synth_filter::whole_samples`.
use Prim.Native.Nat.{ℕ, ◌+◌, ◌-◌, ◌≤◌, ◌<◌}
use mathlib.Core.Path.{◌≡◌, refl}
use mathlib.Core.Bool.{false}
use mathlib.Core.List.{List}
use native.Mathlib.Omega.{arith}
use lib.IntN.{ℤ}
use lib.ListN.{set}
use lib.Signed.{mag, nat_abs-le}
use mir.Syntax.{w16, w64}
use mir.Val.{to_z, of_z}
use mir.Facts.{to_z-of_z}
use Rattle.laws.specs.Lists.{at}
use Rattle.laws.specs.Back.{via}
use Rattle.synth_filter.specs.Fast.{size_sum, Sampled, Reached}
use Rattle.synth_filter.specs.FastLaws.{reached_none}
use Rattle.synth_filter.specs.Pairs.{small_fits, sampled_next, reached_turn}
use Rattle.std.proofs.Common.{rules}
use Rattle.synth_filter.proofs.whole_samples.Goals as goal

pub loop-i-init : goal.loop-i-init
loop-i-init c =
    let start = c.speech_start-start.result in
    let k : start + 0 - 1 ≡ start - 1 = omega arith in
    (search rules, (reached_none _ _ _ _, rw k (via w16 _ c.newest-1.given)))

pub first_of_two-requires : goal.first_of_two-requires
first_of_two-requires c =
    record { b_value = c.pairs-b.ensures; a_bound = omega (arith, c.size_sum.ensures, c.if-size_sum-gt61439.false); newest_value = c.loop-i.invariant.1.1; n_le_speech_length = search rules; le_n = search rules }

-- the sum of the second sample, read back
kept_sum : (z : ℤ) → mag z < 8589934592 → to_z w64 (of_z w64 z) ≡ z
kept_sum z h = to_z-of_z (small_fits z h)

pub second_of_two-requires : goal.second_of_two-requires
second_of_two-requires c = rw (kept_sum c.in-Some.s.sum c.in-Some.ensures.sum_bound) c.in-Some.ensures.sum_bound

-- the places of a turn, over plain numbers
twice : (i : ℕ) → i + 1 + (i + 1) ≡ i + i + 1 + 1
twice i = omega arith

beyond : (s i : ℕ) → s + (i + i) + 1 ≡ s + (i + i + 1)
beyond s i = omega arith

last : (s i : ℕ) → s + (i + 1 + (i + 1)) - 1 ≡ s + (i + i) + 1
last s i = omega arith

next_start : (s i : ℕ) → 10 ≤ s → 10 ≤ s + (i + i)
next_start s i h = omega arith

one_more : (i n : ℕ) → i < n → i + 1 ≤ n
one_more i n h = omega arith

pub returns-in_default : goal.returns-in_default
returns-in_default c =
    let i = c.loop-i.invariant in
    record { upper_bound = omega (arith, i.0); reached = i.1.0 }

pub returns-in_default-second_of_two : goal.returns-in_default-second_of_two
returns-in_default-second_of_two c =
    let n = c.loop-i.i + c.loop-i.i in
    let f : mag c.in-Some.s.word < 32768 = search rules in
    record { upper_bound = search rules; reached = reached_turn _ _ _ _ n c.exc_start-from.ensures.value c.speech_start-start.ensures.value refl refl (via w16 _ c.first_of_two-arg-1.given) c.loop-i.invariant.1.0 (via w16 _ f) c.in-Some.ensures.sampled }

pub loop-i-preserved : goal.loop-i-preserved
loop-i-preserved c =
    let i = c.loop-i.i in
    let n = i + i in
    let k = c.speech_start-start.result + n in
    let s = c.in-Some.s in
    let f : mag s.word < 32768 = search rules in
    let g : mag c.in-Some-second_of_two.next < 32768 = search rules in
    let q = c.in-Some.ensures in
    let w = set c.loop-i.speech k (to_z w16 (of_z w16 s.word)) in
    let x = at c.args.exc.now (c.exc_start-from.result + n + 1) in
    let u = c.first_of_two-arg-in-loop-i-1.given in
    let v = c.second_of_two-arg-1.given in
    let once = reached_turn _ _ _ _ n c.exc_start-from.ensures.value c.speech_start-start.ensures.value refl refl (via w16 _ c.first_of_two-arg-1.given) c.loop-i.invariant.1.0 (via w16 _ f) q.sampled in
    let second = sampled_next c.args.a.now (to_z w16 (of_z w16 x)) c.loop-i.speech k _ (next_start _ i c.speech_start-start.ensures.lower_bound) (omega (arith, c.size_sum.ensures, c.if-size_sum-gt61439.false)) (rw (via w16 x u) (nat_abs-le x u)) q.past (nat_abs-le (at w k) v) _ _ _ _ (kept_sum s.sum q.sum_bound) q.sum_value (via w16 (at w k) v) c.in-Some-second_of_two.ensures in (
      one_more i 20 c.loop-i-test.true,
      (
        rw (twice i) (reached_turn _ _ _ _ (n + 1) c.exc_start-from.ensures.value c.speech_start-start.ensures.value (beyond _ i) (beyond _ i) (via w16 _ u) once (via w16 _ g) second),
        rw (last c.speech_start-start.result i) (via w16 _ c.newest-in-loop-i-1.given),
      ),
    )

pub returns : goal.returns
returns c =
    let e : c.loop-i.i + c.loop-i.i ≡ 40 = omega arith in
    record { upper_bound = search rules; reached = rw e at c.loop-i.invariant.1.0 }

pub returns-then-size_sum-gt61439 : goal.returns-then-size_sum-gt61439
returns-then-size_sum-gt61439 c = record { upper_bound = search rules; reached = reached_none _ _ _ _ }
