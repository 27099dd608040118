-- `adaptive::fast::first_words` meets its contract: its tests are what `words` requires. Assumes nothing.
use native.Mathlib.Omega.{arith}
use Rattle.laws.specs.Loops.{run, run_none, ended_from}
use Rattle.std.proofs.Common.{rules}
use Rattle.adaptive.proofs.fast.first_words.Goals as goal

pub returns-then-size_sum-gt65534 : goal.returns-then-size_sum-gt65534
returns-then-size_sum-gt65534 c = (search rules, run_none _ _ _)

pub returns-then-greatest-gt16383 : goal.returns-then-greatest-gt16383
returns-then-greatest-gt16383 c = (search rules, run_none _ _ _)

pub words-half-requires : goal.words-half-requires
words-half-requires c =
    ((omega (arith, c.size_sum.ensures), c.requires), (search rules, (search rules, λ j h. omega (arith, c.greatest.ensures j h))))

pub returns-then-half-lt20 : goal.returns-then-half-lt20
returns-then-half-lt20 c = let w = c.words-half.ensures in (omega (arith, w.0), w.1.1 _ (run_none _ _ _))

pub words-requires : goal.words-requires
words-requires c =
    ((omega (arith, c.size_sum.ensures), c.requires), (search rules, (search rules, c.words-half.ensures.1.0)))

pub returns : goal.returns
returns c =
    let f = c.words-half.ensures in
    let w = c.words.ensures in
    (w.0, w.1.1 _ (ended_from (run _ _) 20 (f.1.1 _ (run_none _ _ _)) (omega (arith, f.0))))
