-- `compare_step::front` meets its contract: after each call the words up to its end stand.
use mathlib.Core.Path.{◌≡◌, refl, sym, ap, ◌∙◌}
use mathlib.Core.List.{◌++◌}
use native.Mathlib.Omega.{arith}
use lib.IntN.{pos}
use lib.ListN.{length, drop, replicate, length-take}
use Rattle.state.specs.State.{write_params}
use mir.Syntax.{w16}
use Rattle.block.specs.Block.{put}
use Rattle.block.specs.Laws.{front_none, front_more, front_one, front_all}
use Rattle.compare_step.proofs.Parts.{Kept, params_front, in_order}
use Rattle.compare_step.specs.Compare.{far_words}
use Rattle.std.proofs.Common.{rules}
use Rattle.compare_step.proofs.front.Goals as goal
use Rattle.compare_step.proofs.front.Goals.{Start}

kept : (c : Start) → Kept c.args.h
kept c = search rules

pub slice_bounds-put-end-2 : goal.slice_bounds-put-end-2
slice_bounds-put-end-2 c =
    let r = c.write_block-block.result in
    let h : length r ≡ 234 = search rules in
    sym (length-take 70 r ∙ omega (arith, h))

pub returns : goal.returns
unfolding far_words
returns c =
    let q : length c.write_block-block.result ≡ 234 = search rules in
    let w = params_front (write_params c.args.p) (drop 80 (replicate 234 (pos 0)) ++ drop 80 (replicate 90 (pos 0))) c.write_block-block.result c.write_block-block.ensures q refl in
    let f₀ = front_more _ 70 (front_none _ refl) (c.put.ensures ∙ ap (put _ 0) w.0) w.1 (omega arith) in
    let f₁ = front_one w16 c.args.h.count f₀ c.put_word.ensures (kept (goal.at.returns c).Start).count (omega arith) in
    let f₂ = front_one w16 c.args.h.clean f₁ c.put_word-2.ensures (kept (goal.at.returns c).Start).clean (omega arith) in
    let f₃ = front_one w16 c.args.h.status f₂ c.put_word-3.ensures (kept (goal.at.returns c).Start).status (omega arith) in
    let f₄ = front_more _ 10 f₃ c.put-2.ensures (kept (goal.at.returns c).Start).tail (omega arith) in
    let f₅ = front_more _ 160 f₄ c.put-3.ensures (kept (goal.at.returns c).Start).words (omega arith) in
    front_all f₅ ∙ in_order (write_params c.args.p) c.args.h.count c.args.h.clean c.args.h.status c.args.h.tail c.args.h.words
