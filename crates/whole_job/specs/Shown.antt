-- What a job has printed ends in the last ten samples of its state: a frame leaves its last ten samples, and a line that is refused prints nothing and leaves the state as it was. Assumes
-- nothing.
use Rattle.std.specs.Prelude.{◌≡◌, List, ◌++◌, ℕ, ◌+◌, ◌-◌, ◌<◌, ℤ, pos, length, drop, replicate}
use Rattle.std.proofs.Common.{sym, ◌∙◌, append_assoc, append-nil, arith, length-append, drop_at, drop-drop}
use Rattle.std.proofs.Math.Seq.{drop-append-add}
use Rattle.accepted.specs.Lengths.{sized_after}
use Rattle.block.specs.Places.{frame_length, tail_length, tail_place}
use Rattle.call.specs.Chunk.{Part, none, behind, part}
use Rattle.count.specs.declared.Counts.{Counts}
use Rattle.decoder.specs.Call as Frame
use Rattle.decoder.specs.Frame.{decode, frame_signal}
use Rattle.decoder.specs.Laws.{frame_done}
use Rattle.job_step.specs.Step.{tail_room, last_printed}
use Rattle.job_step.specs.Laws.{pcm_end}
use Rattle.line_step.specs.Step.{Job, Step, stop, done, line_step}
use Rattle.line_step.specs.Laws.{by_line, by_counted, by_framed}
use Rattle.parameters.specs.Parameters.{parameters}
use Rattle.plc.specs.declared.Decision.{Decision}
use Rattle.plc.specs.Kinds.{decide}
use Rattle.print.specs.Print.{pcm}
use Rattle.print.specs.Laws.{length_pcm}
use Rattle.state.specs.State.{State, read, write, write_params}
use Rattle.state.specs.Laws.{Sized, read_sized, length_write}
use Rattle.whole_job.specs.Fits.{by_part}

-- ---- a frame

-- the last words of a block
write_tail : (s : State) → Sized s → drop tail_place (write s) ≡ s.signal.tail
unfolding write
write_tail s k =
    let p : List ℤ = write_params s.params in
    let w : length (p ++ (s.signal.past ++ s.signal.tail)) ≡ 234 = length_write s k in
    let n : length (p ++ s.signal.past) ≡ tail_place =
    simp length-append (omega (arith, simp length-append at w, k.past, k.tail)) in
    rw (← append_assoc p s.signal.past s.signal.tail) (drop_at (p ++ s.signal.past) s.signal.tail tail_place n)

decode_tail : (t : List ℤ) (d : Decision) (s : State) → (decode t d s).state.signal.tail ≡ drop (frame_length - tail_length) (decode t d s).samples
unfolding decode
decode_tail t d s =
    let v = parameters t d s.params in
    sym (drop-drop (frame_length - tail_length) tail_length (frame_signal t v.first v.second s.signal).speech)

end_of_frame : (t b : List ℤ) (kind : ℕ) (payload : List ℕ) (out : List ℤ)
    → let r : Frame.Answer = Frame.frame t b kind payload out in
    Frame.number r ≡ 0 → drop tail_place (Frame.block r) ≡ drop (frame_length - tail_length) (Frame.output r)
end_of_frame t b kind payload out e =
    let d : Decision = decide kind payload in
    let f = frame_done t b kind payload out e in
    rw (f.0, f.1) (write_tail (decode t d (read b)).state (sized_after t (read b) (read_sized b) d) ∙ decode_tail t d (read b))

-- the state block that a frame leaves ends in the frame's last ten samples
pub frame_tail : (t b : List ℤ) (kind : ℕ) (payload : List ℕ) (out : List ℤ)
    → let a : Frame.Answer = Frame.frame t b kind payload out in
    Frame.number a ≡ 0 → drop tail_place (Frame.block a) ≡ drop (frame_length - tail_length) (Frame.output a)
frame_tail t b kind payload out e = end_of_frame t b kind payload out e

-- ---- a line

-- where anything is printed, it ends in the last samples of this state block
unfoldable pub Shown : List ℤ → List ℕ → Type 0
Shown b l = 0 < length l → drop (length l - tail_room) l ≡ last_printed b

abbrev Next : List ℕ → Step → Type 0
Next l s = Shown s.job.block (l ++ s.text)

shown_stop : (l : List ℕ) (job : Job) (n : ℕ) → Shown job.block l → Next l (stop job n)
unfolding stop
shown_stop l job n h = rw (append-nil l) h

shown_done : (l : List ℕ) (t : List ℤ) (job : Job) (next : Counts) (kind : ℕ) (payload : List ℕ)
    → let a : Frame.Answer = Frame.frame t job.block kind payload (replicate 80 (pos 0)) in
    Frame.number a ≡ 0 → Next l (done job next a)
unfolding done Shown last_printed
shown_done l t job next kind payload e h =
    let o : List ℤ = Frame.output (Frame.frame t job.block kind payload (replicate 80 (pos 0))) in
    let n : length (l ++ pcm o) - 42 ≡ length l + 285 = rw (length-append l (pcm o)) (omega (arith, length_pcm o)) in
    rw (n, drop-append-add l (pcm o) 285, pcm_end o, end_of_frame t job.block kind payload (replicate 80 (pos 0)) e)

pub shown_line : (l : List ℕ) (t : List ℤ) (job : Job) (held : List ℕ) → Shown job.block l → Next l (line_step t job held)
shown_line l t job held h =
    by_line (Next l) t job held (λ n bytes e. shown_stop l job n h)
    (λ kind bytes e. by_counted (Next l) t job kind _ (λ n e. shown_stop l job n h)
    (λ next e. by_framed (Next l) job next _ (λ z. shown_stop l job _ h) (λ z. shown_done l t job next kind _ z)))

-- ---- a part

pub shown_part : (t : List ℤ) (job : Job) (most room : ℕ) (held text l : List ℕ) → Shown job.block l
    → let q : Part = part t job most room held text in Shown q.job.block (l ++ q.text)
unfolding behind none
shown_part t job most room held text =
    by_part (λ (job : Job) (n : ℕ) (q : Part). (l : List ℕ) → Shown job.block l → Shown q.job.block (l ++ q.text)) t
    (λ job r l h. rw (append-nil l) h)
    (λ job held r q c f l h. rw (← append_assoc l (line_step t job held).text q.text) (f (l ++ (line_step t job held).text) (shown_line l t job held h)))
    job most room held text
