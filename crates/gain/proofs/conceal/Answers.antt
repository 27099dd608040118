-- `gain::conceal` meets its contract. Assumes nothing.
use Prim.Native.Nat.{◌<◌}
use lib.Signed.{mag}
use mir.Syntax.{w16}
use Rattle.laws.specs.Back.{via}
use Rattle.gain.specs.Gain.{conceal}
use Rattle.std.proofs.Common.{rules}
use Rattle.gain.proofs.conceal.Goals as goal
use Rattle.gain.proofs.conceal.Goals.{Start}

parts : (c : Start) → (mag c.args.s.gp < 32768) × (mag c.args.s.gc < 32768)
parts c = search rules

pub returns : goal.returns
unfolding conceal
returns c =
    cc (via w16 c.conceal_fixed_gain.result c.conceal_fixed_gain.type_inv, via w16 c.conceal_pitch_gain.result c.conceal_pitch_gain.type_inv, via w16 c.conceal_error.result c.conceal_error.type_inv, via w16 c.args.s.gp (parts c.before.before.before.before.before.before.before).0, via w16 c.args.s.gc (parts c.before.before.before.before.before.before.before).1)
