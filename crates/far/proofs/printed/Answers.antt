-- `far::printed` meets its contract: a frame is what is printed of the samples that it has.
use mathlib.Core.Path.{refl, ◌∙◌}
use Rattle.pcm_line.specs.PcmLine.{digits}
use Rattle.far.specs.Far.{printed as tells}
use Rattle.far.specs.Laws.{printed_short, printed_other, printed_frame}
use Rattle.std.proofs.Common.{rules, append-nil}
use Rattle.far.proofs.printed.Goals as goal

pub returns-then-bytes-lt-FRAME_ROOM : goal.returns-then-bytes-lt-FRAME_ROOM
returns-then-bytes-lt-FRAME_ROOM c = printed_short _ (search rules)

pub returns-then-not-is_printed : goal.returns-then-not-is_printed
unfolding tells digits
returns-then-not-is_printed c =
    printed_other _ refl (c.digits.ensures ∙ append-nil _) c.is_printed.ensures c.if-not-is_printed.true

pub returns : goal.returns
unfolding tells digits
returns c =
    printed_frame _ refl (c.digits.ensures ∙ append-nil _) c.is_printed.ensures c.if-not-is_printed.false
