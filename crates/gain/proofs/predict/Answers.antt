-- `gain::predict` meets its contract. Assumes nothing.
use Prim.Native.Nat.{◌<◌}
use lib.Signed.{mag}
use mir.Syntax.{w16, w32}
use Rattle.laws.specs.Back.{via}
use Rattle.gain.specs.Gain.{predict}
use Rattle.std.proofs.Common.{rules}
use Rattle.gain.proofs.predict.Goals as goal
use Rattle.gain.proofs.predict.Goals.{After-split_high_low-x}

parts : (c : After-split_high_low-x) → (mag c.split_high_low-x.result.upper < 32768) × (mag c.split_high_low-x.result.lower < 32768)
parts c = search rules

pub returns : goal.returns
unfolding predict
returns c =
    cc (via w16 c.sub.result c.sub.type_inv, via w16 c.extract_l.result c.extract_l.type_inv, via w32 c.base2_power-power.result c.base2_power-power.type_inv, via w16 c.split_high_low-x.result.upper (parts c.before.before.before.before.before).0, via w16 c.split_high_low-x.result.lower (parts c.before.before.before.before.before).1, via w32 c.log2_gain.result c.log2_gain.type_inv)
