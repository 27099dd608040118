-- `block::put` meets its contract: the words are written where the block has room for them, and elsewhere nothing is.
use Rattle.std.proofs.Common.{refl, sym, ◌∙◌, length, arith}
use Rattle.std.proofs.lemmas.Slice.{put_mid-paste}
use Rattle.block.specs.Laws.{put_room, put_none}
use Rattle.block.proofs.put.Goals as goal
use Rattle.block.proofs.put.Goals.{else-n-b-via-then-n-b+else-v-b, else-n-b-via-else-n-b}

pub returns-then-v-b : goal.returns-then-v-b
returns-then-v-b c =
    put_mid-paste _ _ _ _ _ (length c.args.v.now) c.copy_from_slice.ensures.after (omega arith) refl
    ∙ sym (put_room c.args.b.now c.args.v.now c.args.n (omega arith))

pub returns-else-n-b : goal.returns-else-n-b
returns-else-n-b c = put_none _ _ _ (elim c.else-n-b.branch [ else-n-b-via-then-n-b+else-v-b w ↦ omega arith | else-n-b-via-else-n-b w ↦ omega arith ])
