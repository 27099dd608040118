-- `far::is_printed` meets its contract: what is printed again fills its buffer.
use mathlib.Core.Path.{refl, sym, ap, ◌∙◌}
use lib.ListN.{length}
use Rattle.print.specs.Laws.{length_pcm}
use Rattle.far.specs.Laws.{over_whole}
use Rattle.far.proofs.is_printed.Goals as goal

pub slice_bounds-same-end : goal.slice_bounds-same-end
slice_bounds-same-end c = sym (ap length (over_whole _ _ _ refl c.pcm.ensures.1.1) ∙ length_pcm _)

pub returns : goal.returns
returns c = c.same.ensures ∙ rw (over_whole _ _ _ refl c.pcm.ensures.1.1)
