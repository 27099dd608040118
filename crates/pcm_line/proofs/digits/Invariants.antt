-- `pcm_line::digits` meets its contract: before turn i the first i samples are read.
use mathlib.Core.Path.{◌≡◌}
use Prim.Native.Nat.{◌+◌, ◌*◌}
use Rattle.laws.specs.Lists.{filled}
use Rattle.pcm_line.specs.PcmLine.{sample}
use Rattle.pcm_line.proofs.digits.Given as goal

abbrev pub invariant-loop-i : goal.invariant-loop-i
invariant-loop-i l = l.samples ≡ filled (λ k. sample l.text (5 + 4 * k)) l.i l.initial.samples
