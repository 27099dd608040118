-- `block::short` meets its contract: zeros stand behind what is copied.
use Rattle.std.proofs.Common.{sym, ◌≡◌, ◌+◌, ◌-◌, length, arith}
use Rattle.std.proofs.lemmas.List.{drop-replicate, take_rest}
use Rattle.block.specs.Laws.{part_short}
use Rattle.block.proofs.short.Goals as goal

pub returns : goal.returns
returns c =
    let s = c.args in
    let h : length s.b.now - (length s.b.now - s.n) ≡ s.n = omega arith in
    let e : length s.out.now - (length s.b.now - s.n) ≡ s.n + length s.out.now - length s.b.now = omega arith in
    rw (c.copy_from_slice.ensures.after, c.fill.ensures.after (λ y k. k), drop-replicate, e, take_rest) (sym (part_short s.b.now s.n (length s.out.now) c.requires.inside c.requires.fewer))
