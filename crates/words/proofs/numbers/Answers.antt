-- The answers of `words::numbers`.
use mathlib.Core.Path.{refl}
use native.Mathlib.Omega.{arith}
use lib.ListN.{length-set}
use Rattle.words.specs.Laws.{read_more, read_end}
use Rattle.std.proofs.Common.{rules}
use Rattle.words.proofs.numbers.Goals as goal

pub loop-i-preserved : goal.loop-i-preserved
loop-i-preserved c =
    let s = c.args in (
      omega arith,
      simp length-set c.loop-i.invariant.1,
      read_more s.widths.now s.bytes.now c.loop-i.out _ c.loop-i.at _ c.loop-i.i _ (omega arith) (omega arith) (omega arith) c.number.ensures.0 c.loop-i.invariant.2,
    )

pub returns : goal.returns
returns c =
    let s = c.args in
    read_end s.widths.now s.bytes.now c.loop-i.out _ c.loop-i.at c.loop-i.i (omega arith) c.loop-i.invariant.2

pub loop-i-init : goal.loop-i-init
loop-i-init c = (search rules, refl, refl)
