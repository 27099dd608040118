-- What calls that write a block from its front leave. Assumes nothing.
use mathlib.Core.Path.{◌≡◌, ◌∙◌}
use mathlib.Core.List.{List, ◌++◌, append_assoc}
use Prim.Native.Nat.{ℕ, ◌+◌}
use native.Mathlib.Omega.{arith}
use lib.IntN.{ℤ}
use lib.ListN.{length, take, drop, length-drop}
use lib.Seq.{take_all}
use Rattle.block.specs.Block.{put}
use Rattle.block.specs.Laws.{Front, front_more, front_all}
use Rattle.block.specs.Places.{exc_length, speech_length, frame_length, past_length, tail_length, past_place, tail_place, state_length}

-- the part of a list from place n on, as the code lends it
pub from_on : (n m : ℕ) (l : List ℤ) → length l ≡ n + m → take m (drop n l) ≡ drop n l
from_on n m l h = take_all m (drop n l) (simp length-drop (omega arith))

-- the last words of the excitation e and the last samples of the speech s behind the parameters w
pub with_signal : (w e s x y o₁ o₂ o₃ : List ℤ) → length e ≡ exc_length → length s ≡ speech_length → x ≡ drop frame_length e → y ≡ drop frame_length s
    → Front state_length o₁ past_place w → o₂ ≡ put o₁ past_place x → o₃ ≡ put o₂ tail_place y → o₃ ≡ w ++ (drop frame_length e ++ drop frame_length s)
with_signal w e s x y o₁ o₂ o₃ he hs ex ey f h₂ h₃ =
    let lx : length x ≡ past_length = rw ex (simp length-drop (omega arith)) in
    let ly : length y ≡ tail_length = rw ey (simp length-drop (omega arith)) in
    front_all (front_more y tail_length (front_more x past_length f h₂ lx (omega arith)) h₃ ly (omega arith)) ∙ rw (append_assoc, ex, ey)
