-- `parameters::voice` meets its contract: the calls, one after the other.
use Prim.Native.Nat.{ℕ, ◌%◌, ◌<◌}
use native.Mathlib.Omega.{arith}
use lib.IntN.{pos}
use lib.Signed.{mag}
use mir.Syntax.{w16}
use Rattle.laws.specs.Back.{via}
use Rattle.parameters.specs.Parameters.{voice}
use Rattle.std.proofs.Common.{rules}
use Rattle.parameters.proofs.voice.Goals as goal
use Rattle.parameters.proofs.voice.Goals.{Start}

known : (c : Start) → (mag c.args.p.seed < 32768) × (mag c.args.p.beta < 32768)
known c = search rules

bit : (n : ℕ) → n % 2 < 32768
bit n = omega arith

pub returns : goal.returns
unfolding voice
returns c =
    let k = known (goal.at.returns c).Start in
    rw (c.to_decoded.ensures, c.voice_codes-c.ensures, c.voice_delays-d.ensures, c.voice_spectrum-s.ensures, via w16 c.args.p.seed k.0, via w16 c.args.p.beta k.1, via w16 (pos (c.args.f.l0 % 2)) (bit c.args.f.l0))
