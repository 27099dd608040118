-- `compare_step::voice_far` meets its contract: with and without a window.
use mathlib.Core.Path.{◌≡◌, ◌∙◌}
use mir.Syntax.{w16}
use mir.Facts.{to_z-of_z}
use lib.ListN.{length}
use Rattle.laws.specs.Back.{via}
use Rattle.block.specs.Laws.{last_part}
use Rattle.compare_step.specs.Compare.{voice_far, next_status}
use Rattle.std.proofs.Common.{rules}
use Rattle.compare_step.proofs.voice_far.Goals as goal

pub returns-then-x : goal.returns-then-x
unfolding voice_far next_status
returns-then-x c = c.plain_far.ensures ∙ rw (to_z-of_z c.ranges.n, c.if-x.true)

pub returns : goal.returns
unfolding voice_far
returns c =
    let h : length c.args.y.now ≡ 80 = search rules in
    rw (to_z-of_z c.ranges.n, via w16 c.clean_after.result c.clean_after.type_inv, c.clean_after.ensures, via w16 c.next_status.result c.next_status.type_inv, c.next_status.ensures, c.words_at-tail.ensures, last_part 70 10 c.args.y.now h, c.next_words-words.ensures, c.if-x.false)
