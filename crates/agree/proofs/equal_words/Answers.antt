-- `agree::equal_words` meets its contract: the parts that are compared are those of the definition.
use Rattle.std.specs.Cmp.Lexicographic.{pointwise}
use Rattle.std.specs.Ordering.{int_eq}
use Rattle.std.proofs.Common.{◌≡◌, ◌+◌, ◌-◌, ◌∙◌, sym, take, drop, arith}
use Rattle.laws.specs.Lists.{tab_part}
use Rattle.block.specs.Block.{part}
use Rattle.state.specs.Same.{same_parts}
use Rattle.agree.specs.Agree.{equal_words}
use Rattle.agree.proofs.equal_words.Goals as goal

pub returns : goal.returns
unfolding equal_words part
returns c =
    let a = c.args.a.now in
    let b = c.args.b.now in
    let p = c.args.p in
    let n = c.args.n in
    let e : p + n - p ≡ n = omega arith in
    let x : take (p + n - p) (drop p a) ≡ part a p n = rw e (sym (tab_part a p n (omega arith))) in
    let y : take (p + n - p) (drop p b) ≡ part b p n = rw e (sym (tab_part b p n (omega arith))) in
    same_parts a b p p n _ (c.eq.ensures ∙ (λ i. pointwise int_eq (x i) (y i)))
