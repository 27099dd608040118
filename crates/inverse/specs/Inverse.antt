-- The inverse of synthesis: the excitation read off samples, ITU-T G.729 equation (77) solved for x(n), and what two frames of it tell of a decoder's past excitation.
-- (x and y, as in Filter.antt of synth_filter, are the recommendation's excitation and speech.) A sample that was not limited is floor((4096 x(n) - a1 y(n - 1) - .. - a10 y(n - 10) + 2048) / 4096), so x(n) is y(n) without what the ten samples before it give.
use Rattle.std.specs.Prelude.{ℕ, ◌+◌, ◌^◌, ◌<◌, Bool, true, false, cond, ◌||◌, List, ◌++◌, leb, ℤ, pos, negsuc, ◌-ℤ◌, take, drop}
use Rattle.std.specs.Int.Signed.{shr_z, mag, lt_z}
use Rattle.laws.specs.Lists.{at, tab}
use Rattle.laws.specs.Loops.{nowhere}
use Rattle.laws.specs.Sums.{without}
use Rattle.block.specs.Places.{subframe_length, speech_start}
use Rattle.basic_op.specs.Ops.{sat}
use Rattle.synth_filter.specs.Fast.{term, size_sum}
use Rattle.synth.specs.Synth.{divide_by_4}

-- ---- one sample

-- 2048 - a1 y(n - 1) - .. - a10 y(n - 10)
unfoldable pub past_sum : List ℤ → List ℤ → ℕ → ℤ
past_sum a y n = without (term a y n) 10 (pos 2048)

-- x(n) of equation (77) from y(n - 10) to y(n)
unfoldable pub inverse : List ℤ → List ℤ → ℕ → ℤ
inverse a y n = at y n -ℤ shr_z (past_sum a y n) (2 ^ 12)

-- ---- which samples tell their excitation

-- neither -32768 nor 32767, nor beyond: with coefficients in bound such a sample was not limited
abbrev pub Inside : ℤ → Type 0
Inside z = mag z < 32767

-- none of the first n samples is at an end of its range
unfoldable pub inside : List ℤ → ℕ → Bool
inside y n = nowhere (λ k. lt_z (at y k) (negsuc 32766) || lt_z (pos 32766) (at y k)) n

-- the sizes of the coefficients together are at most 61439, and none is -32768: then a sum that saturates on its way ends at an end of its range
unfoldable pub bounded : List ℤ → Bool
bounded a = leb (size_sum a 10) 61439

-- ---- a subframe, and a frame

-- the 40 words of excitation of the subframe whose samples stand from place p on
unfoldable pub subframe_words : List ℤ → List ℤ → ℕ → List ℤ
subframe_words a y p = tab subframe_length (λ k. inverse a y (p + k))

-- the 80 words of a frame, of 90 samples, the ten before it and its own; a and b are the coefficients of its subframes
unfoldable pub frame_words : List ℤ → List ℤ → List ℤ → List ℤ
frame_words a b y = subframe_words a y (speech_start false) ++ subframe_words b y (speech_start true)

-- ---- two frames

-- the words as a subframe leaves them: divided by 4 where its synthesis saturated (clause 4.1.6; here called shrunk), else as they are
unfoldable pub shrunk : Bool → List ℤ → List ℤ
shrunk b l = cond b (divide_by_4 l) l

-- the subframe at place n was shrunk, or not: all words before its own are divided by 4. Its own are what its samples tell
unfoldable pub shrunk_before : Bool → ℕ → List ℤ → List ℤ
shrunk_before b n w = shrunk b (take n w) ++ drop n w

-- the past excitation behind two frames, the 154 newest of the 160 words w that their samples tell, where the second, third and fourth subframe were shrunk, or not
unfoldable pub window_words : (second third fourth : Bool) → List ℤ → List ℤ
window_words second third fourth w = drop 6 (shrunk_before fourth 120 (shrunk_before third 80 (shrunk_before second 40 w)))

-- ---- as they are kept

-- a word kept in 16 bits. What a decoder's samples tell needs no more (`words_fit` of Subframe); other samples may tell anything
unfoldable pub word : ℤ → ℤ
word z = sat 32767 z
