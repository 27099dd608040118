-- `print::pcm` meets its contract: three parts, each behind what stands in front of it.
use mathlib.Core.Path.{◌≡◌}
use native.Mathlib.Omega.{arith}
use lib.ListN.{length}
use Rattle.text.specs.Laws.{then, begun}
use Rattle.print.specs.Print.{pcm}
use Rattle.print.specs.Laws.{front}
use Rattle.std.proofs.Common.{rules}
use Rattle.print.proofs.pcm.Goals as goal

pub returns : goal.returns
unfolding pcm
returns c =
    let h : length c.args.samples.now ≡ 80 = search rules in
    (omega arith, rw c.written.ensures (front (begun c.new-w.ensures.front (then (then c.put.ensures.part (rw h at c.words.ensures.part)) c.put-2.ensures.part))))
