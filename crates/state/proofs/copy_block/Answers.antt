-- `state::copy_block` meets its contract: `block::copy` of 234 words.
use mathlib.Core.Path.{◌≡◌}
use lib.ListN.{length}
use Rattle.block.specs.Block.{copy}
use Rattle.block.specs.Places.{state_length}
use Rattle.std.proofs.Common.{rules}
use Rattle.state.proofs.copy_block.Goals as goal

pub returns : goal.returns
unfolding copy
returns c =
    let h : length c.args.v ≡ state_length = search rules in
    rw h at c.copy.ensures
