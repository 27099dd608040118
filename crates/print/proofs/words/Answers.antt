-- The answers of `print::words`.
use mathlib.Core.Path.{◌≡◌, sym, ap, ◌∙◌}
use native.Mathlib.Omega.{arith}
use lib.ListN.{length}
use mir.Syntax.{w16}
use mir.Val.{of_z}
use Rattle.basic_op.specs.Low.{low_bits}
use Rattle.laws.specs.Back.{via}
use Rattle.laws.specs.Lists.{at}
use Rattle.std.specs.Prelude.{ℤ}
use Rattle.text.specs.Laws.{kept}
use Rattle.print.specs.Laws.{length_words, word_none, word_more}
use Rattle.std.proofs.Common.{rules}
use Rattle.print.proofs.words.Goals as goal

pub loop-s-init : goal.loop-s-init
loop-s-init c = word_none c.args.samples.now c.args.out.now c.args.from (search rules)

pub word-at-requires : goal.word-at-requires
word-at-requires c =
    let p = c.loop-s.invariant in
    omega (arith, p.place, kept p, length_words c.loop-s.s-index c.args.samples.now)

pub loop-s-preserved : goal.loop-s-preserved
loop-s-preserved c =
    let z : ℤ = at c.args.samples.now c.loop-s.s-index in
    let h = c.cast_unsigned-arg-1.given in
    word_more c.args.samples.now c.loop-s.s-index _ c.loop-s.invariant (c.cast_unsigned.ensures ∙ ap (of_z w16) (via w16 z h) ∙ sym (low_bits z h)) c.word-at.ensures

pub shape_of-out : goal.shape_of-out
shape_of-out c = kept c.loop-s.invariant

pub returns : goal.returns
returns c =
    let h : c.loop-s.s-index ≡ length c.args.samples.now = omega arith in
    rw h at c.loop-s.invariant
