-- The answers of `g711::Form::compress`.
use mir.Syntax.{w16}
use Rattle.std.specs.Prelude.{pos}
use Rattle.std.proofs.Common.{ap, ◌∙◌, refl, arith, length-set}
use Rattle.laws.specs.Back.{via}
use Rattle.laws.specs.Lists.{map_none, map_turn, map_end}
use Rattle.g711.specs.Fast.{found_byte}
use Rattle.g711.proofs.Form.compress.Goals as goal

pub loop-i-init : goal.loop-i-init
loop-i-init c = (refl, map_none (found_byte c.args.self) c.args.samples.now _)

pub loop-i-preserved : goal.loop-i-preserved
loop-i-preserved c =
    let l = c.loop-i in (
      simp length-set l.invariant.0,
      map_turn (found_byte c.args.self) c.args.samples.now _ l.bytes l.i (pos 0) _ (omega arith) (omega arith) l.invariant.1
          (c.byte.ensures ∙ ap (found_byte c.args.self) (via w16 _ c.byte-arg-1.given)),
    )

pub returns : goal.returns
returns c = map_end (found_byte c.args.self) c.args.samples.now _ c.loop-i.bytes c.loop-i.i c.loop-i.invariant.1 (omega arith) c.requires
