-- `g711::sign_bit` meets its contract.
use mir.Facts.{to_z-of_z}
use Rattle.g711.specs.Laws.{sign_neg, sign_pos}
use Rattle.g711.proofs.sign_bit.Goals as goal

pub returns-then-z-lt0 : goal.returns-then-z-lt0
returns-then-z-lt0 c = sign_neg (to_z-of_z c.ranges.z) c.if-z-lt0.true

pub returns-else-z-lt0 : goal.returns-else-z-lt0
returns-else-z-lt0 c = sign_pos (to_z-of_z c.ranges.z) c.if-z-lt0.false
