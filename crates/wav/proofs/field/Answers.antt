-- `wav::field` meets its contract.
use mathlib.Core.Path.{◌≡◌, ◌∙◌}
use Prim.Native.Nat.{◌+◌, ◌-◌}
use native.Mathlib.Omega.{arith}
use Rattle.wav.specs.Wav.{field}
use Rattle.wav.proofs.field.Goals as goal

pub returns : goal.returns
unfolding field
returns c =
    let s = c.args in
    let e : (s.at + s.n) - s.at ≡ s.n = omega arith in
    c.number.ensures.0 ∙ rw e
