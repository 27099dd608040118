-- `adaptive::vector` meets its contract: the words without saturation are those of `interpolate`, and `rest` goes on from there. Assumes nothing.
use Rattle.adaptive.specs.FastLaws.{taps_padded, words_by_taps}
use Rattle.std.proofs.Common.{rules}
use Rattle.adaptive.proofs.vector.Goals as goal

pub first_words-done-requires : goal.first_words-done-requires
first_words-done-requires c = (taps_padded _ _ _ _ c.taps-c.ensures, search rules)

pub returns : goal.returns
returns c =
    c.rest.ensures _ (words_by_taps _ _ _ _ _ _ _ _ _ c.offset-offset.ensures.0 c.taps-c.ensures c.first_words-done.ensures.1)
