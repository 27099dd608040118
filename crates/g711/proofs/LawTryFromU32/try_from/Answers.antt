-- The law of a number: where it is neither 1 nor 2, there is none.
use Rattle.std.proofs.Common.{refl, arith}
use Rattle.g711.specs.Law.{unknown}
use Rattle.g711.proofs.LawTryFromU32.try_from.Goals as goal

pub returns-in_default : goal.returns-in_default
returns-in_default c = (refl, unknown c.args.law (omega arith) (omega arith))
