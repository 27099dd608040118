-- The answers of `adaptive::fast::words`.
use mathlib.Core.Path.{◌≡◌, ◌∙◌, ap}
use Prim.Native.Nat.{ℕ, ◌+◌, ◌-◌, ◌≤◌}
use native.Mathlib.Omega.{arith}
use lib.Signed.{mag}
use mir.Syntax.{w16, w32}
use mir.Val.{to_z, of_z}
use mir.Facts.{to_z-of_z}
use Rattle.laws.specs.Loops.{write}
use Rattle.laws.specs.Range.{within}
use Rattle.laws.specs.Back.{via}
use Rattle.basic_op.specs.Laws.{fits_within}
use Rattle.adaptive.specs.Fast.{filtered}
use Rattle.adaptive.specs.FastLaws.{small_part, small_set}
use Rattle.std.proofs.Common.{rules}
use Rattle.adaptive.proofs.fast.words.Goals as goal

pub word-w-requires : goal.word-w-requires
word-w-requires c =
    let a = c.args in
    (search rules, (search rules, (search rules, (c.requires.0.0, (c.requires.0.1.0, small_part c.loop-n.exc (a.from - a.k - 9) 59 16384 (a.from + c.loop-n.n - a.k - 9) 20 c.loop-n.invariant.1.0 (omega arith) (omega arith))))))

pub returns-then-w-gt16383 : goal.returns-then-w-gt16383
returns-then-w-gt16383 c = (search rules, c.loop-n.invariant.1)

pub overflow_cast-exc : goal.overflow_cast-exc
overflow_cast-exc c = fits_within 16383 tt c.if-w-gt16383.false c.if-w-ltminus16384.false

pub loop-n-preserved : goal.loop-n-preserved
loop-n-preserved c =
    let a = c.args in
    let z = to_z w32 (of_z w32 c.word-w.result) in
    let e : to_z w16 (of_z w16 z) ≡ z = to_z-of_z (overflow_cast-exc c) in
    let p : a.from + c.loop-n.n - a.k - 9 + 9 ≡ a.from + c.loop-n.n - a.k = omega arith in
    let m : mag z ≤ 16383 = within 16383 z c.if-w-gt16383.false c.if-w-ltminus16384.false in (
      search rules,
      (
        small_set c.loop-n.exc (a.from - a.k - 9) 59 16384 (a.from + c.loop-n.n) (to_z w16 (of_z w16 z)) c.loop-n.invariant.1.0 (rw e (omega arith)),
        λ l₀ g. write _ _ _ _ _ _ (c.loop-n.invariant.1.1 l₀ g) (e ∙ via w32 c.word-w.result c.word-w.type_inv ∙ c.word-w.ensures ∙ ap (λ (x : ℕ). filtered a.c.now a.offset x c.loop-n.exc) p),
      ),
    )

pub returns : goal.returns
returns c = let e : c.loop-n.n ≡ c.args.end = omega arith in (search rules, rw e at c.loop-n.invariant.1)

pub loop-n-init : goal.loop-n-init
loop-n-init c = (search rules, (c.requires.1.1.1, λ l e. e))
