-- `pcm_line::write` meets its contract: fewer than 80 samples are all of the first 80.
use mathlib.Core.Path.{refl, sym}
use native.Mathlib.Omega.{arith}
use lib.Seq.{take_all}
use Rattle.pcm_line.specs.Laws.{wrote}
use Rattle.pcm_line.proofs.write.Goals as goal

pub returns-then-samples-lt80 : goal.returns-then-samples-lt80
returns-then-samples-lt80 c =
    let l = c.args.samples.now in
    wrote l (sym (take_all 80 l (omega arith))) c.put_line.ensures

pub returns : goal.returns
returns c = wrote c.args.samples.now refl c.put_line-2.ensures
