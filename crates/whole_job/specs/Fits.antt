-- What a part of a call leaves fits a job file (`fits` of Job): a line that is not refused is one frame more, has the bytes of a line, and prints no more than has room; and its state is
-- accepted. Assumes nothing.
use Rattle.std.specs.Prelude.{◌≡◌, refl, Bool, true, false, cond, List, [], ◌∷◌, ◌++◌, ℕ, suc, ◌+◌, ◌-◌, ◌*◌, ◌≤◌, eqb, ℤ, length}
use Rattle.std.proofs.Common.{ap, ◌∙◌, arith, add-zero, eqb-true, length-append}
use Rattle.std.proofs.lemmas.Bool.{eqb-false}
use Rattle.count.specs.Count as Count
use Rattle.count.specs.Laws.{fits_more, frames_more}
use Rattle.line.specs.Line.{shortest, longest}
use Rattle.print.specs.Print.{frame_least, frame_room}
use Rattle.line_step.specs.declared.Progress.{Progress}
use Rattle.line_step.specs.Step.{Job, Step, with_code, line_step}
use Rattle.line_step.specs.Laws.{sized}
use Rattle.call.specs.Chunk.{Part, none, behind, goes_on, part}
use Rattle.call.specs.Laws.{going}
use Rattle.state.specs.State.{state_check}
use Rattle.whole_call.specs.Counting.{More, counting, next_line}
use Rattle.whole_call.specs.Codes.{line_accepted}
use Rattle.whole_call.specs.Reads.{line_bytes}

-- ---- a line

-- counts that a job can have, and as many lines as frames
abbrev pub CanBeSaved : Progress → Type 0
CanBeSaved p = (Count.fits p.counts ≡ true) × (Count.frames_are p.lines p.counts ≡ true)

able_more : (p q : Progress) → More p q → CanBeSaved p → (q.lines ≡ p.lines + 1) × CanBeSaved q
able_more p q m a =
    let f = frames_more m.kind p.lines m.rules p.counts q.counts m.frame a.1 in
    let e : q.lines ≡ p.lines + 1 = m.line ∙ next_line p.lines (omega (arith, f.1)) in
    (e, (fits_more m.kind m.rules p.counts q.counts a.0 m.frame, rw e f.0))

-- what is printed is at least the least for each line more, and has room
abbrev Room : Progress → ℕ → Progress → Type 0
Room p n q = (frame_least * q.lines ≤ n + frame_least * p.lines) × (n + frame_room * p.lines ≤ frame_room * q.lines)

line_able : (t : List ℤ) (job : Job) (l : List ℕ) → CanBeSaved job.progress
    → let s : Step = line_step t job l in CanBeSaved s.job.progress × Room job.progress (length s.text) s.job.progress
line_able t job l a = by (eqb s.job.progress.code 0) refl
  where
    s : Step
    s = line_step t job l

    by : (x : Bool) → eqb s.job.progress.code 0 ≡ x → CanBeSaved s.job.progress × Room job.progress (length s.text) s.job.progress
    by true z =
        let c : s.job.progress.code ≡ 0 = eqb-true _ _ z in
        let m = able_more job.progress s.job.progress ((counting t job l).more c) a in
        (m.1, (omega (arith, m.0, (sized t job l).printed c), omega (arith, m.0, (sized t job l).fits)))
    by false z =
        let c : s.job.progress.code ≡ 0 → ⊥ = eqb-false _ _ z in
        let e : s.job.progress ≡ with_code job.progress s.job.progress.code = (counting t job l).as_was c in
        let n : length s.text ≡ 0 = ap length ((sized t job l).silent c) in
        let i : s.job.progress.lines ≡ job.progress.lines = ap (λ (p : Progress). p.lines) e in
        (able e, (omega arith, omega arith))
      where
        able : s.job.progress ≡ with_code job.progress s.job.progress.code → CanBeSaved s.job.progress
        able e = rw e a

-- ---- a part, of n bytes

-- what holds where no line is taken, and of a line and the part behind it
pub by_part : (P : Job → ℕ → Part → Type 0) (t : List ℤ) → ((job : Job) (l : List ℕ) → P job (length l) (none job l))
    → ((job : Job) (held l : List ℕ) (q : Part) → job.progress.code ≡ 0 → P (line_step t job held).job (length l) q
    → P job (length held + suc (length l)) (behind (line_step t job held).text q))
    → (job : Job) (most room : ℕ) (held l : List ℕ) → P job (length held + length l) (part t job most room held l)
unfolding part
by_part P t f g job most room held [] = rw add-zero (f job held)
by_part P t f g job most room held (b ∷ l) =
    by (goes_on job.progress most room) (eqb b 10) refl (by_part P t f g s.job (most - 1) (room - length s.text) [] l) (by_part P t f g job most room (held ++ (b ∷ [])) l)
  where
    s : Step
    s = line_step t job held

    A : Part
    A = part t s.job (most - 1) (room - length s.text) [] l

    B : Part
    B = part t job most room (held ++ (b ∷ [])) l

    N : ℕ
    N = length held + length (b ∷ l)

    by : (p q : Bool) → goes_on job.progress most room ≡ p → P s.job (0 + length l) A → P job (length (held ++ (b ∷ [])) + length l) B
        → P job N (cond p (cond q (behind s.text A) B) (none job (held ++ (b ∷ l))))
    by true true e h k = g job held l A (going job.progress most room e).0 (let z : 0 + length l ≡ length l = omega arith in rw z at h)
    by true false e h k = let n : length (held ++ (b ∷ [])) + length l ≡ N = rw length-append (omega arith) in rw n at k
    by false q e h k = let n : length (held ++ (b ∷ l)) ≡ N = rw length-append (omega arith) in rw n at (f job (held ++ (b ∷ l)))

pub record AfterPart (job : Job) (q : Part) : Type 0 where
  pub able : CanBeSaved q.job.progress
  pub text : Room job.progress (length q.text) q.job.progress

pub part_able : (t : List ℤ) (job : Job) (most room : ℕ) (held l : List ℕ) → CanBeSaved job.progress → AfterPart job (part t job most room held l)
unfolding behind none
part_able t =
    by_part (λ (job : Job) (n : ℕ) (q : Part). CanBeSaved job.progress → AfterPart job q) t
    (λ job l a. record { able = a; text = (omega arith, omega arith) })
    (λ job held l q c f a.
    let g = line_able t job held a in
    let h = f g.0 in
    let n = length-append (line_step t job held).text q.text in
    record { able = h.able; text = (omega (arith, h.text.0, g.1.0, n), omega (arith, h.text.1, g.1.1, n)) })

-- where no line is refused
pub record Fits (job : Job) (n : ℕ) (q : Part) : Type 0 where
  pub begun : job.progress.code ≡ 0
  pub least : length q.unused + (shortest + 1) * q.job.progress.lines ≤ n + (shortest + 1) * job.progress.lines
  pub most : n + (longest + 1) * job.progress.lines ≤ length q.unused + (longest + 1) * q.job.progress.lines

pub part_fits : (t : List ℤ) (job : Job) (most room : ℕ) (held l : List ℕ) → CanBeSaved job.progress → (part t job most room held l).job.progress.code ≡ 0
    → Fits job (length held + length l) (part t job most room held l)
unfolding behind none
part_fits t =
    by_part (λ (job : Job) (n : ℕ) (q : Part). CanBeSaved job.progress → q.job.progress.code ≡ 0 → Fits job n q) t
    (λ job l a e. record { begun = e; least = omega arith; most = omega arith })
    (λ job held l q c f a e.
    let h = f (line_able t job held a).0 e in
    let g = able_more job.progress (line_step t job held).job.progress ((counting t job held).more h.begun) a in
    let k = line_bytes t job held h.begun in
    record { begun = c; least = omega (arith, h.least, k.0, g.0); most = omega (arith, h.most, k.1, g.0) })

-- no more bytes are left than there were
pub part_unused : (t : List ℤ) (job : Job) (most room : ℕ) (held l : List ℕ) → length (part t job most room held l).unused ≤ length held + length l
unfolding behind none
part_unused t = by_part (λ (job : Job) (n : ℕ) (q : Part). length q.unused ≤ n) t (λ job l. omega arith) (λ job held l q c f. omega arith)

-- the state that it leaves is accepted, whatever its lines are
pub part_accepted : (t : List ℤ) (job : Job) (most room : ℕ) (held l : List ℕ) → state_check job.block ≡ 0 → state_check (part t job most room held l).job.block ≡ 0
unfolding behind none
part_accepted t =
    by_part (λ (job : Job) (n : ℕ) (q : Part). state_check job.block ≡ 0 → state_check q.job.block ≡ 0) t
    (λ job l h. h)
    (λ job held l q c f h. f (line_accepted t job held h))
