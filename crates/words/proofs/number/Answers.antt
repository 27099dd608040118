-- The answers of `words::number`.
use Prim.Native.Nat.{◌-◌, min}
use native.Mathlib.Omega.{arith}
use lib.ListN.{length}
use lib.Pow.{pow_pos}
use Rattle.words.specs.Laws.{room, fits, number_turn, number_none, number_end}
use Rattle.words.proofs.number.Goals as goal

pub loop-i-init : goal.loop-i-init
loop-i-init c = (omega arith, pow_pos _, number_none c.args.bytes.now c.min-i.result (omega arith))

pub overflow_mul-n : goal.overflow_mul-n
overflow_mul-n c =
    let l = c.loop-i in
    let m = min 8 (length c.args.bytes.now) in
    record { fits = fits m (l.i - 1) _ (omega arith) (omega (arith, room m l.i l.n 0 (omega arith) (omega arith) l.invariant.1 (omega arith))) }

pub overflow_cast-n : goal.overflow_cast-n
overflow_cast-n c = omega (arith, c.type_inv.bytes (c.loop-i.i - 1))

pub overflow_add-n : goal.overflow_add-n
overflow_add-n c =
    let l = c.loop-i in
    let m = min 8 (length c.args.bytes.now) in
    record { fits = fits m (l.i - 1) _ (omega arith) (room m l.i l.n _ (omega arith) (omega arith) l.invariant.1 (omega (arith, c.type_inv.bytes (l.i - 1)))) }

pub loop-i-preserved : goal.loop-i-preserved
loop-i-preserved c =
    let l = c.loop-i in (
      omega arith,
      room (min 8 (length c.args.bytes.now)) l.i l.n _ (omega arith) (omega arith) l.invariant.1 (omega (arith, c.type_inv.bytes (l.i - 1))),
      number_turn c.args.bytes.now l.i _ (omega arith) (omega arith) l.invariant.2,
    )

pub returns : goal.returns
returns c = number_end c.args.bytes.now c.loop-i.i _ (omega arith) c.loop-i.invariant.1 c.loop-i.invariant.2
