-- `compare_step::next_words` meets its contract: the last frame's words, and this one's.
use mathlib.Core.Path.{◌≡◌, refl, sym, ap, ◌∙◌}
use mathlib.Core.List.{List, ◌++◌, map}
use native.Mathlib.Omega.{arith}
use lib.ListN.{length, drop, length-drop}
use lib.IntN.{ℤ}
use Rattle.inverse.specs.Inverse.{frame_words, word}
use Rattle.block.specs.Block.{put}
use Rattle.block.specs.Laws.{front_none, front_more, front_all}
use Rattle.compare_step.proofs.Parts.{Kept, from_on}
use Rattle.std.proofs.Common.{rules}
use Rattle.compare_step.proofs.next_words.Goals as goal
use Rattle.compare_step.proofs.next_words.Goals.{After-e-1, After-put-2, Start}

kept : (c : Start) → Kept c.args.h
kept c = search rules

pub slice_bounds-past-end : goal.slice_bounds-past-end
slice_bounds-past-end c = sym (kept (goal.at.slice_bounds-past-end c).Start).words

pub slice_bounds-put-count : goal.slice_bounds-put-count
slice_bounds-put-count c = omega (arith, (kept (goal.at.slice_bounds-put-count c).Start).words)

pub slice_bounds-put-start : goal.slice_bounds-put-start
slice_bounds-put-start c = omega (arith, (kept (goal.at.slice_bounds-put-start c).Start).words)

size : (c : After-put-2) → length c.args.y.now ≡ 80
size c = search rules

told : (c : After-e-1) → length c.frame_words-e.result ≡ 80
told c = search rules

pub returns : goal.returns
returns c =
    let hy : length c.args.y.now ≡ 80 = size (goal.at.returns c).After-put-2 in
    let he : length c.frame_words-e.result ≡ 80 = told (goal.at.returns c).After-e-1 in
    let g₀ = front_more _ 10 (front_none _ refl) c.put.ensures (kept (goal.at.returns c).Start).tail (omega arith) in
    let speech = front_all (front_more _ 80 g₀ c.put-2.ensures hy (omega arith)) in
    let old = from_on 80 c.args.h.words in
    let ho : length (drop 80 c.args.h.words) ≡ 80 = simp length-drop (omega (arith, (kept (goal.at.returns c).Start).words)) in
    let f₀ = front_more (drop 80 c.args.h.words) 80 (front_none _ refl) (c.put-3.ensures ∙ ap (put _ 0) old) ho (omega arith) in
    front_all (front_more _ 80 f₀ c.put-4.ensures he (omega arith)) ∙ ap (λ (e : List ℤ). drop 80 c.args.h.words ++ e) (c.frame_words-e.ensures ∙ ap (λ (x : List ℤ). map word (frame_words c.args.v.first.a c.args.v.second.a x)) speech)
