-- `pcm_line::is_printed` meets its contract: what is printed again is compared without its line feed.
use mathlib.Core.Path.{◌≡◌, ◌∙◌}
use Prim.Native.Nat.{◌-◌}
use native.Mathlib.Omega.{arith}
use lib.ListN.{take}
use Rattle.print.specs.Laws.{over_fits}
use Rattle.pcm_line.specs.PcmLine.{pcm_line}
use Rattle.pcm_line.specs.Laws.{length_line, text_taken}
use Rattle.pcm_line.proofs.is_printed.Goals as goal

pub overflow_sub-n : goal.overflow_sub-n
overflow_sub-n c =
    let l = c.args.samples.now in
    omega (arith, c.write-n.ensures.1.0, length_line (take 80 l))

pub slice_bounds-same-end : goal.slice_bounds-same-end
slice_bounds-same-end c =
    let l = c.args.samples.now in
    omega (arith, c.write-n.ensures.1.0, over_fits (pcm_line (take 80 l)) _ c.write-n.ensures.1.1)

pub returns : goal.returns
returns c =
    let m : c.write-n.result - 1 - 0 ≡ c.write-n.result - 1 = omega arith in
    c.same.ensures ∙ rw (m, text_taken (take 80 c.args.samples.now) _ c.write-n.ensures.1.0 c.write-n.ensures.1.1)
