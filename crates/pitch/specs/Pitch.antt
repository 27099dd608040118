-- The pitch delay of ITU-T G.729: its parity (clause 3.7.2), the decoding of both subframes' delays (clauses 4.1.2 and 4.1.3), and the delay
-- of an erased subframe (clause 4.4.4).
use Rattle.std.specs.Prelude.{ℕ, ◌+◌, ◌-◌, ◌*◌, ◌/◌, ◌%◌, ◌^◌, min, max, Bool, cond, eqb, ltb, ℤ, pos, negsuc, ◌+ℤ◌, ◌-ℤ◌, ◌*ℤ◌}
use Rattle.laws.specs.Loops.{steps}
use Rattle.basic_op.specs.Ops.{lesser}
use Rattle.pitch.specs.declared.Delay.{Delay}
use Rattle.pitch.specs.declared.PitchState.{PitchState}
use Rattle.pitch.specs.declared.Tracked.{Tracked}
use Rattle.pitch.specs.declared.Delays.{Delays}

-- z, or 0 where it is negative
unfoldable pub nat : ℤ → ℕ
nat (pos n) = n
nat (negsuc n) = 0

-- Clause 3.7.2: the ones among bits 2 to 7 of P1 (the six most significant of its eight), and one more, are as many as P0, modulo 2.
-- Only bit 0 of P0 is read.
unfoldable pub parity_ok : ℕ → ℕ → Bool
parity_ok p1 p0 = eqb (steps (λ k ones. ones + p1 / 2 ^ (k + 2) % 2) 6 1 % 2) (p0 % 2)

-- Clause 4.1.3: T1 from the eight low bits of P1, an integer and thirds.
unfoldable pub decode_t1 : ℕ → Delay
decode_t1 p1 =
    let p = p1 % 256 in
    let whole = (p + 2) / 3 + 19 in
    cond (ltb p 197)
    (record { integer = pos whole; fraction = pos p -ℤ pos (3 * whole) +ℤ pos 58 })
    (record { integer = pos (p - 112); fraction = pos 0 })

-- Clause 4.1.3: the least delay of the second subframe, int(T1) - 5, but at least 20, and at most 134, so that nine more is at most 143.
-- Any T1 is taken; a negative one gives 20.
abbrev pub t_min : ℤ → ℕ
t_min t1 = min (max (nat t1 - 5) 20) 134

-- Clause 4.1.3: T2 from the five low bits of P2 and the integer part of T1.
unfoldable pub decode_t2 : ℕ → ℤ → Delay
decode_t2 p2 t1 =
    let p = p2 % 32 in
    let q = (p + 2) / 3 in
    record { integer = pos (q + t_min t1 - 1); fraction = pos p -ℤ pos 2 -ℤ (pos q -ℤ pos 1) *ℤ pos 3 }

-- ---- the delay that is carried from subframe to subframe

-- the integer part of the delay used is carried
abbrev pub track : Delay → Tracked
track d = record { delay = d; state = record { old = d.integer } }

-- the carried delay, fraction 0
abbrev pub carried : ℤ → Delay
carried old = record { integer = old; fraction = pos 0 }

-- the lesser of the carried delay plus 1 and 143
unfoldable pub increased : ℤ → PitchState
increased old = record { old = lesser (old +ℤ pos 1) (pos 143) }

-- Clause 4.1.2: subframe 1 of a received frame; after a parity error the carried delay.
unfoldable pub first : ℤ → ℕ → Bool → Tracked
first old p1 ok = track (cond ok (decode_t1 p1) (carried old))

-- Clause 4.1.3: subframe 2 of a received frame.
unfoldable pub second : ℕ → ℤ → Tracked
second p2 t1 = track (decode_t2 p2 t1)

-- Clause 4.4.4: a subframe of an erased frame uses the carried delay, which then grows by one, to 143 at most (so 144 falls to 143).
unfoldable pub erased : ℤ → Tracked
erased old = record { delay = carried old; state = increased old }

-- ---- both subframes of a frame

-- Clauses 4.1.2 and 4.1.3: a frame that was received.
unfoldable pub voice_delays : ℤ → (p1 p0 p2 : ℕ) → Delays
voice_delays old p1 p0 p2 =
    let t1 = first old p1 (parity_ok p1 p0) in
    let t2 = second p2 t1.delay.integer in
    record { first = t1.delay; second = t2.delay; state = t2.state }

-- Clause 4.4.4: one that was not.
unfoldable pub concealed_delays : ℤ → Delays
concealed_delays old =
    let t1 = erased old in
    let t2 = erased t1.state.old in
    record { first = t1.delay; second = t2.delay; state = t2.state }
