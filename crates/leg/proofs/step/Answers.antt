-- `leg::step` meets its contract: what `g711::write` answers of the samples that the line has.
use Rattle.std.proofs.Common.{refl, arith}
use Rattle.std.proofs.lemmas.Bool.{eqb-false}
use Rattle.refusal.specs.Laws.{nonzero}
use Rattle.leg.specs.Laws.{found_few, found_fits, bytes_none, bytes_done}
use Rattle.leg.proofs.Laws.{bytes_told}
use Rattle.leg.proofs.step.Goals as goal

pub slice_bounds-write-end : goal.slice_bounds-write-end
slice_bounds-write-end c = found_fits _ _ c.read-n.ensures

pub slice_bounds-write-end-2 : goal.slice_bounds-write-end-2
slice_bounds-write-end-2 c =
    omega (arith, found_few _ _ c.read-n.ensures)

pub returns-in-Err : goal.returns-in-Err
returns-in-Err c =
    let s = c.args in
    (bytes_told s.law s.text.now s.bytes.now _ c.read-n.ensures (omega (arith, found_few _ _ c.read-n.ensures)) c.in-Err.ensures (eqb-false _ _ (nonzero c.in-Err.refused)), omega arith)

pub returns-then-n-eq0 : goal.returns-then-n-eq0
returns-then-n-eq0 c =
    let s = c.args in
    (bytes_none s.law s.text.now s.bytes.now _ c.read-n.ensures (omega (arith, found_few _ _ c.read-n.ensures)) c.in-Ok.ensures refl c.if-n-eq0.true, omega arith)

pub returns-else-n-eq0 : goal.returns-else-n-eq0
returns-else-n-eq0 c =
    let s = c.args in
    (bytes_done s.law s.text.now s.bytes.now _ c.read-n.ensures (omega (arith, found_few _ _ c.read-n.ensures)) c.in-Ok.ensures refl c.if-n-eq0.false, omega (arith, found_few _ _ c.read-n.ensures))
