-- The answers of `g711::expand`.
use mir.Syntax.{w16}
use Rattle.std.proofs.Common.{◌∙◌, refl, arith, length-set}
use Rattle.laws.specs.Back.{via}
use Rattle.laws.specs.Lists.{at, map_none, map_turn, map_end}
use Rattle.g711.specs.Laws.{met}
use Rattle.g711.proofs.expand.Goals as goal

pub loop-i-init : goal.loop-i-init
loop-i-init c = (refl, map_none (at c.args.t.now) c.args.bytes.now _)

pub loop-i-preserved : goal.loop-i-preserved
loop-i-preserved c =
    let l = c.loop-i in (
      simp length-set l.invariant.0,
      map_turn (at c.args.t.now) c.args.bytes.now _ l.samples l.i 0 _ (omega arith) (omega arith) l.invariant.1 (via w16 _ c.samples-1.given),
    )

pub returns : goal.returns
returns c =
    let l = c.loop-i in
    let e = map_end (at c.args.t.now) c.args.bytes.now _ l.samples l.i l.invariant.1 (omega arith) c.requires in
    record { by = λ rule m h. e ∙ met rule c.args.t.now c.args.bytes.now m h }
