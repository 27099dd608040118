-- `line::put_form` meets its contract: three parts, each behind what stands in front of it.
use mathlib.Core.List.{append_assoc}
use native.Mathlib.Omega.{arith}
use Rattle.text.specs.Laws.{kept, then}
use Rattle.line.specs.Line.{closing, form}
use Rattle.line.specs.Laws.{length_hex}
use Rattle.line.proofs.put_form.Goals as goal

pub put_bytes-b-requires : goal.put_bytes-b-requires
put_bytes-b-requires c =
    let p = c.put-a.ensures in
    omega (arith, p.place, kept p)

pub put-requires : goal.put-requires
put-requires c =
    let p = c.put-a.ensures in
    let q = c.put_bytes-b.ensures in
    omega (arith, p.place, kept p, q.place, kept q, length_hex c.args.payload.now)

pub returns : goal.returns
unfolding form closing
returns c =
    rw append_assoc at (then (then c.put-a.ensures c.put_bytes-b.ensures) c.put.ensures)
