-- The answers of `playout::kinds`.
use Rattle.std.proofs.Common.{◌∙◌, arith}
use Rattle.playout.specs.Laws.{all_lost, taken_none, taken_turn, taken_end}
use Rattle.playout.proofs.kinds.Goals as goal

pub loop-j-init : goal.loop-j-init
loop-j-init c = (c.min-j-end.ensures, taken_none c.args.start c.args.depth c.args.numbers.now c.args.times.now _)

pub loop-j-preserved : goal.loop-j-preserved
loop-j-preserved c =
    let l = c.loop-j in
    (l.invariant.0, taken_turn c.args.start c.args.depth c.args.numbers.now c.args.times.now _ l.j l.out _ (omega (arith, l.invariant.0)) l.invariant.1 c.take.ensures)

pub returns : goal.returns
returns c =
    let l = c.loop-j in
    let e = c.fill.ensures.after (λ y h. h) ∙ all_lost c.args.out.now in
    taken_end c.args.start c.args.depth c.args.numbers.now c.args.times.now c.args.out.now _ l.j l.out (omega (arith, l.invariant.0)) e l.invariant.1

pub bounds-numbers-j : goal.bounds-numbers-j
bounds-numbers-j c = omega (arith, c.loop-j.invariant.0)

pub bounds-times-j : goal.bounds-times-j
bounds-times-j c = omega (arith, c.loop-j.invariant.0)
