-- `state::opened` meets its contract: `block::words` fills the front, and the rest stays 0.
use Rattle.block.specs.Places.{frame_length}
use Rattle.std.specs.Prelude.{min}
use Rattle.std.proofs.Common.{◌≡◌, ◌-◌, pos, arith}
use Rattle.std.proofs.lemmas.List.{drop-replicate, length-replicate, take-replicate}
use Rattle.state.proofs.opened.Goals as goal

pub returns : goal.returns
returns g c =
    let n = g.row.N in
    let rest : n - (n - frame_length) ≡ min n frame_length = omega arith in
    rw (c.words.ensures, c.saturating_sub.ensures, take-replicate (n - frame_length) n (pos 0) (omega arith), length-replicate, drop-replicate, rest)
