-- The answers of `words::put_number`.
use mathlib.Core.Path.{refl}
use native.Mathlib.Omega.{arith}
use lib.ListN.{length-set}
use Rattle.words.specs.Laws.{rest_none, rest_more, rest_end}
use Rattle.words.proofs.put_number.Goals as goal

pub loop-b-init : goal.loop-b-init
loop-b-init c = (refl, rest_none _ _ c.args.out.now)

pub loop-b-preserved : goal.loop-b-preserved
loop-b-preserved c = (
  simp length-set c.loop-b.invariant.0,
  rest_more _ _ c.loop-b.b-index _ _ (omega arith) c.loop-b.invariant.0 c.loop-b.invariant.1,
)

pub returns : goal.returns
returns c =
    rest_end _ _ c.loop-b.b-index _ _ c.loop-b.invariant.0 (omega arith) c.loop-b.invariant.1
