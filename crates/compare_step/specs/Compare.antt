-- A comparison of a far decoder's samples with what a decoder makes of the same frames (docs/AGREEMENT.md, "The far decoder's state"). Of the far decoder only the samples are seen. From the sixth common voice
-- frame on all parameters of two decoders but the seed are equal (Demand 3), so the samples of two frames tell its past excitation, but for which of three subframes were shrunk: it is one of eight candidates. From
-- there on each candidate is decoded, and those stay whose samples have been the far ones.
use Rattle.std.specs.Prelude.{ℕ, Bool, cond, not, Result, Ok, Err, ◌&&◌, ◌||◌, List, [], ◌∷◌, ◌++◌, map, eqb, ℤ, pos, negsuc, ◌+ℤ◌, ◌-ℤ◌, length, drop, replicate}
use Rattle.std.specs.Int.Signed.{lt_z}
use Rattle.laws.specs.Lists.{at}
use Rattle.block.specs.Block.{part}
use Rattle.block.specs.Places.{frame_length, tail_length}
use Rattle.tables.specs.Layout.{table_check}
use Rattle.bitstream.specs.declared.SpeechParams.{SpeechParams}
use Rattle.pitch.specs.Pitch.{parity_ok, nat}
use Rattle.plc.specs.Kinds.{decide}
use Rattle.plc.specs.declared.Decision.{Decision}
use Rattle.plc.specs.declared.Decision.TheVariants.{Voice, Concealment}
use Rattle.inverse.specs.Inverse.{inside, bounded, frame_words, word}
use Rattle.state.specs.State.{read_params, write_params, fresh_params, accepted}
use Rattle.parameters.specs.declared.Decoded.{Decoded}
use Rattle.parameters.specs.Parameters.{parameters}
use Rattle.decoder.specs.Call.{first_of, input_check}
use Rattle.compare_step.specs.declared.Difference.{Difference}
use Rattle.compare_step.specs.declared.Far.{Far}
use Rattle.compare_step.specs.declared.Seen.{Seen}
use Rattle.compare_step.specs.declared.Left.{Left}
use Rattle.compare_step.specs.declared.Class.{Class}
use Rattle.compare_step.specs.declared.Class.TheVariants.{Concealed, Settling, NotClean, Known, Differs}
use Rattle.compare_step.specs.Slots.{all_tried, candidates, only_fitting, best, fit, fits, computed}

-- ---- the memory, 2203 words: 70 words of parameters, as in a state block; what is kept of the far samples; the slots

abbrev pub front_length : ℕ
front_length = 243

abbrev pub compare_length : ℕ
compare_length = 2203

-- how many words two frames tell
abbrev pub window_length : ℕ
window_length = 160

-- words 70 to 242
unfoldable pub read_far : List ℤ → Far
read_far m = record { count = at m 70; clean = at m 71; status = at m 72; tail = part m 73 tail_length; words = part m 83 window_length }

unfoldable pub far_words : Far → List ℤ
far_words h = h.count ∷ h.clean ∷ h.status ∷ (h.tail ++ h.words)

-- before the first frame
unfoldable pub no_far : Far
no_far = record { count = pos 0; clean = pos 0; status = pos 0; tail = replicate tail_length (pos 0); words = replicate window_length (pos 0) }

-- ---- counts

-- the number of a voice frame in the count, which begins with one that passes parity, and goes no further than 32767
unfoldable pub next_count : ℤ → Bool → ℤ
next_count n parity = cond (lt_z n (pos 1) && not parity) (pos 0) (cond (lt_z n (pos 32767)) (n +ℤ pos 1) n)

-- frame n tells its excitation: it is the sixth or a later one, its coefficients are in bound, and its samples inside their range
unfoldable pub tells : ℤ → Decoded → List ℤ → Bool
tells n v y = lt_z (pos 5) n && (bounded v.first.a && (bounded v.second.a && inside y frame_length))

-- how many frames in a row can be part of a window, up to two; from -1 the first isn't counted
unfoldable pub next_clean : ℤ → Bool → ℤ
next_clean c told = cond told (cond (lt_z c (pos 2)) (c +ℤ pos 1) (pos 2)) (pos 0)

-- ---- a voice frame of far samples y, v its parameters

-- new candidates are taken from the last two frames: where both can be part of a window, and the last isn't a candidate's. They replace those that there were
unfoldable pub taken : Far → Bool
taken h = lt_z (pos 1) h.clean && (lt_z h.status (pos 1) || lt_z (pos 1) h.status)

-- there are candidates: the frame is answered Known or Differs
unfoldable pub known : Far → Bool
known h = taken h || lt_z (pos 0) h.status

-- the slots behind the frame, before those that don't fit are dropped
unfoldable pub slots_tried : List ℤ → Decoded → List ℤ → Far → List ℤ → List ℤ
slots_tried t v y h s = let x = cond (taken h) (candidates h.words h.tail s) s in cond (known h) (all_tried t v y x) x

-- the far samples are those of a candidate
unfoldable pub found : Far → List ℤ → Bool
found h s = known h && fits s (best s)

unfoldable pub slots_left : Far → List ℤ → List ℤ
slots_left h s = cond (found h s) (only_fitting s) s

-- where the candidate that gave the most samples first differs, and by how much
unfoldable pub first_difference : List ℤ → List ℤ → Difference
first_difference y s = let p = nat (fit s (best s)) in record { sample = p; rest = at y p -ℤ at (computed s (best s)) p }

-- of the slots s behind the frame
unfoldable pub look : List ℤ → Far → List ℤ → Seen
look y h s = record { known = known h; found = found h s; difference = first_difference y s }

-- the first frame that differs, or the first behind a window: the next frame's ten samples before it can't be relied on
unfoldable pub breaks : Far → Seen → Bool
breaks h x = x.known && (not x.found && (taken h || lt_z h.status (pos 2)))

-- candidates of which none gave the frame stay, since the line may have changed a sample and the far decoder went on; unless they are new: then there are none
unfoldable pub next_status : Far → Seen → ℤ
next_status h x = cond x.found (pos 1) (cond (x.known && not (taken h)) (pos 2) (pos 0))

-- what is kept behind frame n, which told its excitation or not. Where the far samples are a candidate's, no window is needed
unfoldable pub voice_far : ℤ → Decoded → List ℤ → Bool → Far → Seen → Far
voice_far n v y told h x =
    record {
      count = n;
      clean = cond x.found (pos 0) (cond (breaks h x) (negsuc 0) (next_clean h.clean told));
      status = next_status h x;
      tail = drop 70 y;
      words = cond x.found h.words (drop frame_length h.words ++ map word (frame_words v.first.a v.second.a (h.tail ++ y)));
    }

unfoldable pub class : ℤ → Bool → Seen → Class
class n told x = cond x.known (cond x.found Known (Differs x.difference)) (cond (lt_z (pos 5) n && not told) (NotClean (nat n)) (Settling (nat n)))

-- ---- a concealed frame: the far decoder may have had anything, and all counts begin anew

unfoldable pub concealed_far : List ℤ → Far → Far
concealed_far y h = record { count = pos 0; clean = pos 0; status = pos 0; tail = drop 70 y; words = h.words }

-- ---- a frame

pub record Step : Type 0 where
  pub far : Far
  pub slots : List ℤ
  pub class : Class
  -- the samples of a candidate where there is one, else as they were
  pub samples : List ℤ

-- of what is kept and what the frame is, beside the slots and the samples
abbrev pub left_of : Left → List ℤ → List ℤ → Step
left_of r s out = record { far = r.far; slots = s; class = r.class; samples = out }

unfoldable pub voice_step : List ℤ → SpeechParams → Decoded → List ℤ → List ℤ → Far → List ℤ → Step
voice_step t f v y out h s =
    let n = next_count h.count (parity_ok f.p1 f.p0) in
    let told = tells n v y in
    let tried = slots_tried t v y h s in
    let x = look y h tried in
    record {
      far = voice_far n v y told h x;
      slots = slots_left h tried;
      class = class n told x;
      samples = cond (known h) (computed tried (best tried)) out;
    }

unfoldable pub step : List ℤ → Decision → Decoded → List ℤ → List ℤ → Far → List ℤ → Step
step t (Voice f) v y out h s = voice_step t f v y out h s
step t Concealment v y out h s = record { far = concealed_far y h; slots = s; class = Concealed; samples = out }

-- ---- the operations

-- 3: not 2203 words. 4: predictor or delay out of range
unfoldable pub memory_check : List ℤ → ℕ
memory_check m = cond (eqb (length m) compare_length) (cond (accepted (read_params m)) 0 4) 3

-- the first that applies. 1, 2: the table check. 3, 4: the memory. 5, 6: kind and payload. 7: not 80 far samples, or not room for 80
unfoldable pub refusal : List ℤ → List ℤ → ℕ → List ℕ → ℕ → ℕ → ℕ
refusal t m kind payload samples room =
    first_of (table_check t) (first_of (memory_check m) (first_of (input_check kind payload samples) (input_check kind payload room)))

-- what a frame is, or the number that refuses it
abbrev pub Compared : Type 0
Compared = Result Class ℕ

-- of a frame that is not refused
abbrev pub ok : Class → Compared
ok c = Ok c

-- the answer, and the memory and the samples as the call leaves them
pub data Answer : Type 0 where
  answer : Compared → List ℤ → List ℤ → Answer

-- a frame on memory m
unfoldable pub stepped : List ℤ → List ℤ → Decision → List ℤ → List ℤ → Answer
stepped t m d y out =
    let v = parameters t d (read_params m) in
    let r = step t d v y out (read_far m) (drop front_length m) in
    answer (Ok r.class) (write_params v.params ++ (far_words r.far ++ r.slots)) r.samples

unfoldable pub compare : List ℤ → List ℤ → ℕ → List ℕ → List ℤ → List ℤ → Answer
compare t m kind payload y out =
    let n = refusal t m kind payload (length y) (length out) in
    cond (eqb n 0) (stepped t m (decide kind payload) y out) (answer (Err n) m out)

-- the number returned, and the memory as the call leaves it
pub data Begun : Type 0 where
  begun : ℕ → List ℤ → Begun

-- 1, 2: the table check. 3: not 2203 words
unfoldable pub begin : List ℤ → List ℤ → Begun
begin t m =
    cond (eqb (table_check t) 0)
    (cond (eqb (length m) compare_length) (begun 0 (write_params (fresh_params t) ++ (far_words no_far ++ replicate 1960 (pos 0)))) (begun 3 m))
    (begun (table_check t) m)
