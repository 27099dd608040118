-- `leg::line` meets its contract: fewer than 80 bytes are all of the first 80.
use mathlib.Core.Path.{◌≡◌}
use native.Mathlib.Omega.{arith}
use lib.ListN.{take}
use lib.Seq.{take_all}
use Rattle.leg.proofs.line.Goals as goal

pub returns-then-bytes-lt80 : goal.returns-then-bytes-lt80
returns-then-bytes-lt80 c =
    let l = c.args.bytes.now in
    let e : take 80 l ≡ l = take_all 80 l (omega arith) in
    rw e c.print_line.ensures
