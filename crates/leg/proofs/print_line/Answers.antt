-- `leg::print_line` meets its contract: nothing for no bytes or another law, else the line of the samples read.
use Rattle.std.proofs.Common.{refl, arith}
use Rattle.std.proofs.lemmas.Bool.{eqb-false}
use Rattle.refusal.specs.Laws.{nonzero}
use Rattle.leg.specs.Laws.{no_bytes, other_law, front_fits, printed}
use Rattle.leg.proofs.print_line.Goals as goal

pub returns-then-n-eq0 : goal.returns-then-n-eq0
returns-then-n-eq0 c =
    let s = c.args in
    no_bytes s.law s.bytes.now s.out.now c.if-n-eq0.true

pub returns-in_default : goal.returns-in_default
returns-in_default c =
    let s = c.args in
    other_law s.law s.bytes.now (omega arith) _ refl c.in_default.ensures (eqb-false _ _ (nonzero c.in_default.field-0)) s.out.now

pub slice_bounds-write-end : goal.slice_bounds-write-end
slice_bounds-write-end c =
    let s = c.args in
    front_fits s.law s.bytes.now (omega arith) _ refl c.in-Ok.ensures refl _

pub returns : goal.returns
returns c =
    let s = c.args in
    printed s.law s.bytes.now (omega arith) _ refl c.in-Ok.ensures refl _ c.if-n-eq0.false s.out.now c.write.ensures
