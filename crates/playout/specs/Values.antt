-- Values of the playout (change request 11): no frames and no arrivals, the last millisecond that is in time, a sum of more than 32 bits, duplicates, refusals and which come first. Assumes nothing.
use Rattle.std.specs.Prelude.{Ok, Err}
use Rattle.std.specs.Prelude.{◌≡◌, refl, true, List, [], ◌∷◌, ℕ, ◌≤◌, length}
use Rattle.std.proofs.Common.{sym, arith, le-leb}
use Rattle.laws.specs.Lists.{upto}
use Rattle.laws.specs.Loops.{nowhere, steps}
use Rattle.playout.specs.Playout.{arrivals, arrived, kind, kinds, lost, below, answer, refusal, playout}
use Rattle.playout.specs.Laws.{accepted_if}

-- no frames and no arrivals, whatever the start and the depth
pub nothing : (s d : ℕ) → playout 0 s d [] [] [] ≡ answer (Ok 0) []
unfolding playout refusal below nowhere steps lost kinds upto
nothing s d = refl

-- frame 1 is played at 5 + 20 + 10: an arrival at 35 is in time, and one at 36 is not
pub in_time : playout 2 5 20 (1 ∷ []) (35 ∷ []) (9 ∷ 9 ∷ []) ≡ answer (Ok 1) (3 ∷ 0 ∷ [])
unfolding playout refusal below nowhere steps lost kinds upto kind arrived arrivals
in_time = refl

pub late : playout 2 5 20 (1 ∷ []) (36 ∷ []) (9 ∷ 9 ∷ []) ≡ answer (Ok 2) (3 ∷ 3 ∷ [])
unfolding playout refusal below nowhere steps lost kinds upto kind arrived arrivals
late = refl

-- 4294967295 + 4294967295 does not wrap
pub not_wrapped : playout 1 4294967295 4294967295 (0 ∷ []) (4294967295 ∷ []) (9 ∷ []) ≡ answer (Ok 0) (0 ∷ [])
unfolding playout refusal below nowhere steps lost kinds upto kind arrived arrivals
not_wrapped = refl

-- one of three arrivals is in time, whichever it is
pub first_of_three : playout 1 0 10 (0 ∷ 0 ∷ 0 ∷ []) (10 ∷ 11 ∷ 12 ∷ []) (9 ∷ []) ≡ answer (Ok 0) (0 ∷ [])
unfolding playout refusal below nowhere steps lost kinds upto kind arrived arrivals
first_of_three = refl

pub middle_of_three : playout 1 0 10 (0 ∷ 0 ∷ 0 ∷ []) (12 ∷ 10 ∷ 11 ∷ []) (9 ∷ []) ≡ answer (Ok 0) (0 ∷ [])
unfolding playout refusal below nowhere steps lost kinds upto kind arrived arrivals
middle_of_three = refl

pub last_of_three : playout 1 0 10 (0 ∷ 0 ∷ 0 ∷ []) (12 ∷ 11 ∷ 10 ∷ []) (9 ∷ []) ≡ answer (Ok 0) (0 ∷ [])
unfolding playout refusal below nowhere steps lost kinds upto kind arrived arrivals
last_of_three = refl

-- 20 before 21, and 21 before 7; no frames and an arrival are 21
pub many_first : playout 4097 0 0 (5000 ∷ []) [] (9 ∷ []) ≡ answer (Err 20) (9 ∷ [])
unfolding playout refusal
many_first = refl

pub number_second : playout 2 0 0 (2 ∷ []) [] (9 ∷ []) ≡ answer (Err 21) (9 ∷ [])
unfolding playout refusal below nowhere steps
number_second = refl

pub no_frame : playout 0 0 0 (0 ∷ []) (0 ∷ []) [] ≡ answer (Err 21) []
unfolding playout refusal below nowhere steps
no_frame = refl

pub lengths_last : playout 2 0 0 (1 ∷ []) [] (9 ∷ 9 ∷ []) ≡ answer (Err 7) (9 ∷ 9 ∷ [])
unfolding playout refusal below nowhere steps
lengths_last = refl

-- each of the two lengths is looked at, and each number
pub kinds_counted : playout 2 0 0 (1 ∷ []) (0 ∷ []) (9 ∷ []) ≡ answer (Err 7) (9 ∷ [])
unfolding playout refusal below nowhere steps
kinds_counted = refl

pub second_number : playout 2 0 0 (1 ∷ 2 ∷ []) (0 ∷ 0 ∷ []) (9 ∷ 9 ∷ []) ≡ answer (Err 21) (9 ∷ 9 ∷ [])
unfolding playout refusal below nowhere steps
second_number = refl

-- 4,096 frames and as many arrivals are taken, and one more of either is not; times are not counted
pub most_frames : refusal 4096 [] 0 4096 ≡ 0
unfolding refusal below nowhere steps
most_frames = refl

pub more_frames : (ns : List ℕ) (ts room : ℕ) → refusal 4097 ns ts room ≡ 20
unfolding refusal
more_frames ns ts room = refl

pub most_arrivals : (ns : List ℕ) → length ns ≡ 4096 → below 1 ns ≡ true → refusal 1 ns 4096 1 ≡ 0
most_arrivals ns e b = accepted_if 1 ns 4096 1 (omega arith) (omega (arith, e)) b (sym e) refl

pub more_arrivals : (f : ℕ) (ns : List ℕ) (ts room : ℕ) → f ≤ 4096 → length ns ≡ 4097 → refusal f ns ts room ≡ 20
unfolding refusal
more_arrivals f ns ts room h e = rw (le-leb f 4096 h, e)

pub more_times : refusal 1 (0 ∷ []) 4097 1 ≡ 7
unfolding refusal below nowhere steps
more_times = refl
