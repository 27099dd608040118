-- The answers of `print::number`.
use Rattle.std.proofs.Common.{rules, arith}
use Rattle.text.specs.Laws.{kept}
use Rattle.print.specs.Laws.{but_last, number_one, number_more}
use Rattle.print.proofs.+number.Goals as goal

pub returns-then-n-lt10 : goal.returns-then-n-lt10
returns-then-n-lt10 t c = number_one c.args.n c.args.from c.args.out.now (omega arith) (search rules)

pub bounds-out-last : goal.bounds-out-last
bounds-out-last t c =
    let p = c.number-last.ensures.1 in
    omega (arith, but_last c.args.n c.ranges.n.fits, p.place, kept p)

pub returns : goal.returns
returns t c =
    let p = c.number-last.ensures.1 in
    number_more c.args.n c.args.from c.number-last.result c.args.out.now _ (omega arith) c.ranges.n.fits
    (omega (arith, but_last c.args.n c.ranges.n.fits, p.place, kept p)) p
