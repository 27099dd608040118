-- The answers of `line::put_bytes`.
use Rattle.std.proofs.Common.{arith}
use Rattle.text.specs.Laws.{kept}
use Rattle.line.specs.Laws.{hex_none, hex_more, length_hex_take}
use Rattle.line.proofs.put_bytes.Goals as goal

pub loop-b-init : goal.loop-b-init
loop-b-init c =
    let s = c.args in
    hex_none s.payload.now s.out.now s.from (omega arith)

pub put_byte-at-requires : goal.put_byte-at-requires
put_byte-at-requires c =
    let p = c.loop-b.invariant in
    omega (arith, p.place, kept p, length_hex_take c.args.payload.now c.loop-b.b-index (omega arith))

pub loop-b-preserved : goal.loop-b-preserved
loop-b-preserved c = hex_more c.args.payload.now c.loop-b.b-index (omega arith) c.loop-b.invariant c.put_byte-at.ensures
