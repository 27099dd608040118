-- `replay::stream::read_words` is safe: no chunk is longer than 256 words.
use Rattle.std.proofs.Common.{◌≡◌}
use Rattle.replay.proofs.stream.read_words.Given as goal

abbrev pub invariant-loop-part : goal.invariant-loop-part
invariant-loop-part g l =
    (goal.iterator-loop-part g).can_next l.part-iterator ×
    (goal.iterator-loop-part g).is_finite l.part-iterator × (l.part-iterator.size ≡ 256)
