-- The answers of `job::parts::wanted`.
use Rattle.std.proofs.Common.{refl, sym, ◌∙◌, arith, eqb-true}
use Rattle.std.proofs.lemmas.Bool.{eqb-false}
use Rattle.job.specs.PartLaws.{digit_not, digit_is, wanted_none, wanted_other, wanted_more, wanted_end}
use Rattle.job.proofs.parts.wanted.Goals as goal

pub returns-then-is_empty : goal.returns-then-is_empty
returns-then-is_empty c = wanted_none _ (eqb-true _ _ (sym c.is_empty.ensures ∙ c.if-is_empty.true))

pub returns-then-not-is_ascii_digit : goal.returns-then-not-is_ascii_digit
returns-then-not-is_ascii_digit c =
    wanted_other c.args.text.now c.loop-b.b-index c.loop-b.n (omega arith) c.loop-b.invariant (digit_not _ (sym c.is_ascii_digit.ensures.value ∙ c.if-not-is_ascii_digit.true))

pub loop-b-preserved : goal.loop-b-preserved
loop-b-preserved c =
    let d = digit_is _ (sym c.is_ascii_digit.ensures.value ∙ c.if-not-is_ascii_digit.false) in
    wanted_more c.args.text.now c.loop-b.b-index c.loop-b.n (omega arith) c.loop-b.invariant _ d.0 d.1 c.further-n.ensures

pub returns : goal.returns
returns c =
    wanted_end c.args.text.now c.loop-b.b-index c.loop-b.n (eqb-false _ _ (sym c.is_empty.ensures ∙ c.if-is_empty.false)) (omega arith) c.loop-b.invariant
