-- The answers of `playout::least`.
use mathlib.Core.Path.{refl, sym, ap, ◌∙◌}
use Prim.Native.Nat.{ℕ, ◌+◌, ◌-◌, ◌/◌}
use native.Mathlib.Omega.{arith}
use lib.ListN.{length}
use Rattle.playout.specs.Playout.{arrivals, kinds}
use Rattle.playout.specs.Laws.{length_kinds}
use Rattle.playout.specs.Least.{half_less, Inside, inside_first, inside_turn, least_never, least_found}
use Rattle.playout.proofs.least.Goals as goal

pub shape_of-out-then-not-enough : goal.shape_of-out-then-not-enough
shape_of-out-then-not-enough c =
    ap length c.enough.ensures.1 ∙ length_kinds c.args.start 4294967295 (arrivals c.args.numbers.now c.args.times.now) (length c.args.out.now)

pub returns-then-not-enough : goal.returns-then-not-enough
returns-then-not-enough c =
    least_never c.args.start c.args.allowed (arrivals c.args.numbers.now c.args.times.now) (length c.args.out.now) _ (sym c.enough.ensures.0 ∙ c.if-not-enough.true) c.enough.ensures.1

pub loop-b-init : goal.loop-b-init
loop-b-init c =
    let l = arrivals c.args.numbers.now c.args.times.now in
    let q = ap length c.enough.ensures.1 ∙ length_kinds c.args.start 4294967295 l (length c.args.out.now) in
    (refl, rw q (inside_first c.args.start c.args.allowed l (length c.args.out.now) (sym c.enough.ensures.0 ∙ c.if-not-enough.false)))

pub half-b-requires : goal.half-b-requires
half-b-requires c = omega (arith, c.loop-b-test.true)

pub loop-b-smaller : goal.loop-b-smaller
loop-b-smaller c =
    rw c.half-b.ensures (half_less c.loop-b.b (c.loop-b.b.low + (c.loop-b.b.high - c.loop-b.b.low) / 2) _ (omega arith) (omega (arith, c.loop-b-test.true)))

pub loop-b-preserved : goal.loop-b-preserved
loop-b-preserved c =
    let l = arrivals c.args.numbers.now c.args.times.now in
    let middle : ℕ = c.loop-b.b.low + (c.loop-b.b.high - c.loop-b.b.low) / 2 in (
      ap length c.enough-found.ensures.1 ∙ length_kinds c.args.start middle l (length c.loop-b.out) ∙ c.loop-b.invariant.0,
      rw c.half-b.ensures
          (inside_turn c.args.start c.args.allowed l _ c.loop-b.b middle _ c.loop-b.invariant.1 (omega arith) (omega (arith, c.loop-b-test.true)) (c.enough-found.ensures.0 ∙ rw c.loop-b.invariant.0)),
    )

pub shape_of-out : goal.shape_of-out
shape_of-out c =
    let l = arrivals c.args.numbers.now c.args.times.now in
    ap length c.kinds.ensures
    ∙ length_kinds c.args.start c.loop-b.b.high l (length c.loop-b.out)
    ∙ c.loop-b.invariant.0
    ∙ ap length c.enough.ensures.1
    ∙ length_kinds c.args.start 4294967295 l (length c.args.out.now)

pub returns : goal.returns
returns c =
    let l = arrivals c.args.numbers.now c.args.times.now in
    let q = c.loop-b.invariant.0 ∙ ap length c.enough.ensures.1 ∙ length_kinds c.args.start 4294967295 l (length c.args.out.now) in
    let i : Inside c.args.start c.args.allowed l (length c.args.out.now) c.loop-b.b = rw (sym c.loop-b.invariant.0 ∙ q) at c.loop-b.invariant.1 in
    least_found c.args.start c.args.allowed l (length c.args.out.now) c.loop-b.b _ i c.loop-b-test.false (c.kinds.ensures ∙ ap (kinds _ _ _) q)
