-- `payload_line::payload_line` meets its contract: that of `step`; what is printed has room, since the lent bytes keep their number.
use mathlib.Core.Path.{◌≡◌}
use native.Mathlib.Omega.{arith}
use lib.ListN.{length}
use Rattle.payload_line.specs.PayloadLine.{room, payload_line}
use Rattle.payload_line.specs.Laws.{written_fits}
use Rattle.std.proofs.Common.{rules}
use Rattle.payload_line.proofs.payload_line.Goals as goal

pub returns : goal.returns
returns c =
    let s = c.args in
    let n : length s.out.now ≡ room = search rules in
    record { out_after = c.step.ensures; written_le_room = omega (arith, written_fits (payload_line s.number s.text.now) s.out.now c.step.ensures c.step.auto.out) }
