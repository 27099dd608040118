-- `block::words` meets its contract: past the end every place reads the same, and elsewhere the part is copied.
use Rattle.std.proofs.Common.{sym, ap, ◌∙◌, ◌≡◌, ◌+◌, ◌-◌, ℕ, length, arith}
use Rattle.laws.specs.Lists.{tab_part}
use Rattle.block.specs.Block.{part}
use Rattle.block.specs.Laws.{part_from}
use Rattle.block.proofs.words.Goals as goal

pub returns-then-out-b : goal.returns-then-out-b
unfolding part
returns-then-out-b c =
    let n = length c.args.out.now in
    let k : (c.min-from.result + n) - c.min-from.result ≡ n = omega arith in
    (rw k at c.copy_from_slice.ensures.after)
    ∙ sym (tab_part c.args.b.now c.min-from.result n (omega arith))
    ∙ ap (λ (i : ℕ). part c.args.b.now i n) c.min-from.ensures ∙ part_from c.args.b.now c.args.n n

pub returns-else-out-b : goal.returns-else-out-b
returns-else-out-b c =
    let n = length c.args.out.now in
    c.short.ensures ∙ ap (λ (i : ℕ). part c.args.b.now i n) c.min-from.ensures ∙ part_from c.args.b.now c.args.n n
