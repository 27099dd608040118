-- `replay::repeat` ends: by what `rest` promises, fewer turns may follow each.
use Rattle.replay.proofs.repeat.Given as goal

abbrev pub decreases-loop-most : goal.decreases-loop-most
decreases-loop-most g l = l.most
