-- The answers of `words::put_numbers`.
use mathlib.Core.Path.{refl}
use native.Mathlib.Omega.{arith}
use Rattle.words.specs.Laws.{put_more_numbers, put_end}
use Rattle.std.proofs.Common.{rules}
use Rattle.words.proofs.put_numbers.Goals as goal

pub loop-i-preserved : goal.loop-i-preserved
loop-i-preserved c =
    let s = c.args in (
      search rules,
      search rules,
      put_more_numbers s.widths.now s.values.now c.loop-i.out _ _ _ c.loop-i.at _ c.loop-i.i (omega arith) (omega arith) (omega arith) (omega arith) c.put_number.ensures refl c.loop-i.invariant.2,
    )

pub returns : goal.returns
returns c =
    let s = c.args in
    put_end s.widths.now s.values.now c.loop-i.out _ c.loop-i.at c.loop-i.i (omega arith) c.loop-i.invariant.2

pub loop-i-init : goal.loop-i-init
loop-i-init c = (search rules, refl, refl)
