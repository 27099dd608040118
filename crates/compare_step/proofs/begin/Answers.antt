-- `compare_step::begin` meets its contract: the words in front, and zeros.
use mathlib.Core.Path.{◌≡◌, ap, ◌∙◌}
use mathlib.Core.List.{append_assoc}
use lib.IntN.{pos}
use lib.ListN.{length, replicate, length-replicate}
use native.Mathlib.Omega.{arith}
use borrow.Author.Tests.{eq-eqb}
use Rattle.state.specs.State.{write_params, fresh_params}
use Rattle.compare_step.specs.Laws.{put_front}
use Rattle.compare_step.specs.Compare.{begin, begun, far_words, no_far}
use Rattle.std.proofs.Common.{rules}
use Rattle.compare_step.proofs.begin.Goals as goal

pub returns : goal.returns
unfolding begin no_far
returns c =
    let h = eq-eqb _ _ c.if-m-ne-COMPARE_LENGTH.false in
    let zeros = c.fill.ensures.after (λ y e. e) in
    let sized : length c.front-words.result ≡ 243 = search rules in
    rw (← c.in_ok-table_check.ensures, h)
    (ap (begun 0) (c.put.ensures ∙ put_front _ _ 243 sized (rw (zeros, length-replicate, c.if-m-ne-COMPARE_LENGTH.false) (omega arith))
    ∙ rw (c.front-words.ensures, c.fresh_params.ensures, zeros, c.if-m-ne-COMPARE_LENGTH.false) (append_assoc (write_params (fresh_params c.args.t.now)) (far_words no_far) (replicate 1960 (pos 0)))))
