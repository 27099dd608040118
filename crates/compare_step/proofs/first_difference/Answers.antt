-- `compare_step::first_difference` meets its contract: both samples at the place where the best candidate ends.
use mathlib.Core.Path.{◌∙◌}
use mir.Syntax.{w16}
use mir.Facts.{to_z-of_z}
use native.Mathlib.Omega.{arith}
use Rattle.laws.specs.Back.{via}
use Rattle.laws.specs.Range.{mag_sub}
use Rattle.compare_step.specs.Compare.{first_difference}
use Rattle.compare_step.proofs.first_difference.Goals as goal

pub overflow_cast-rest : goal.overflow_cast-rest
overflow_cast-rest c = rw (via w16 c.word.result c.word.type_inv) (record { sfits = omega (arith, c.word.type_inv) })

pub overflow_cast-rest-2 : goal.overflow_cast-rest-2
overflow_cast-rest-2 c = rw (via w16 c.word-2.result c.word-2.type_inv) (record { sfits = omega (arith, c.word-2.type_inv) })

pub overflow_sub-rest : goal.overflow_sub-rest
overflow_sub-rest c =
    let x = to_z-of_z (overflow_cast-rest c.before.before) ∙ via w16 c.word.result c.word.type_inv in
    let y = to_z-of_z (overflow_cast-rest-2 c) ∙ via w16 c.word-2.result c.word-2.type_inv in
    record { sfits = rw (x, y) (omega (arith, mag_sub c.word.result c.word-2.result 32768 32768 c.word.type_inv c.word-2.type_inv)) }

pub returns : goal.returns
unfolding first_difference
returns c =
    let x = to_z-of_z (overflow_cast-rest c.before.before) ∙ via w16 c.word.result c.word.type_inv ∙ c.word.ensures in
    let y = to_z-of_z (overflow_cast-rest-2 c) ∙ via w16 c.word-2.result c.word-2.type_inv ∙ c.word-2.ensures in
    rw (to_z-of_z (overflow_sub-rest c), x, y, c.computed-z.ensures, c.nat-sample.ensures, via w16 c.fit.result c.fit.type_inv, c.fit.ensures, c.best-i.ensures.value)
