-- `inverse::window_words` meets its contract: the three subframes one after the other, then the newest 154 words.
use mathlib.Core.Path.{◌≡◌, ap, ◌∙◌}
use lib.ListN.{length, drop}
use Rattle.block.specs.Laws.{last_part}
use Rattle.inverse.specs.Inverse.{window_words, shrunk_before}
use Rattle.std.proofs.Common.{rules}
use Rattle.inverse.proofs.window_words.Goals as goal

pub returns : goal.returns
unfolding window_words
returns c =
    let h : length c.shrunk_before-3.new.w ≡ 160 = search rules in
    c.words-2.ensures ∙ last_part 6 154 _ h
    ∙ ap (drop 6) (c.shrunk_before-3.ensures ∙ ap (shrunk_before _ 120) (c.shrunk_before-2.ensures ∙ ap (shrunk_before _ 80) (c.shrunk_before.ensures ∙ ap (shrunk_before _ 40) (c.words.ensures ∙ last_part 0 160 c.args.w.now (search rules)))))
