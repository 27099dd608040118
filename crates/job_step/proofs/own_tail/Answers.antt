-- `job_step::own_tail` meets its contract: what is printed of the 80 words ends in what is printed of the last ten.
use mathlib.Core.Path.{refl}
use Rattle.job_step.specs.Laws.{form_room, tail_is}
use Rattle.job_step.proofs.own_tail.Goals as goal

pub slice_bounds-same-end : goal.slice_bounds-same-end
slice_bounds-same-end c = form_room _ _ _ refl c.pcm.ensures.1.1

pub returns : goal.returns
returns c =
    rw (c.same.ensures, tail_is _ _ _ refl c.pcm.ensures.1.1 c.args.b.now c.words.ensures)
