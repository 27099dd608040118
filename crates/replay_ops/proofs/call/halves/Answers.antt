-- `replay_ops::call::halves` is safe: the number fits 64 bits.
use native.Mathlib.Omega.{arith}
use lib.Dec.{lit<, lit≤}
use mir.Syntax.{w32, w64}
use mir.Val.{to_z, of_z}
use mir.ValLaws.{to_z_pos}
use mir.Facts.{to_z-of_z, sfits_widen}
use Rattle.laws.specs.Range.{fits_scale}
use Rattle.laws.specs.Back.{fits_by, keep}
use Rattle.replay_ops.specs.{halves_fit}
use Rattle.replay_ops.proofs.call.halves.Goals as goal

pub overflow_cast-result : goal.overflow_cast-result
overflow_cast-result c = sfits_widen tt (keep w32 tt (fits_by w32 c.signed.result c.signed.type_inv))

pub overflow_mul-result : goal.overflow_mul-result
overflow_mul-result c = fits_scale w32 w64 _ 4294967296 (keep w64 tt (keep w32 tt (fits_by w32 c.signed.result c.signed.type_inv))) (lit< tt) (lit≤ tt)

pub overflow_add-result : goal.overflow_add-result
overflow_add-result c =
    rw (to_z-of_z (overflow_mul-result c), to_z-of_z (overflow_cast-result c), to_z_pos w64 c.args.low (omega arith))
    (record { sfits = halves_fit (to_z w32 (of_z w32 c.signed.result)) c.args.low (keep w32 tt (fits_by w32 c.signed.result c.signed.type_inv)).sfits (omega arith) })
