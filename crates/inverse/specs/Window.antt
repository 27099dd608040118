-- What a frame's words of excitation leave as past excitation, and what those of two frames leave: nothing of the words before them, and so one of eight. Assumes nothing.
use Rattle.std.specs.Prelude.{ℕ, ◌+◌, ◌≡◌, refl, Bool, true, false, List, ◌++◌, ℤ, length, take, drop}
use Rattle.std.proofs.Common.{length-append}
use Rattle.std.proofs.lemmas.List.{map-append}
use Rattle.laws.specs.Lists.{length_tab}
use Rattle.synth.specs.Synth.{divide_by_4}
use Rattle.synth.specs.Laws.{length_divide_by_4}
use Rattle.inverse.specs.Inverse.{subframe_words, frame_words, shrunk, window_words}

-- x is the past excitation that a frame of the 80 words w leaves, of some past excitation before it
pub record LeftByOne (w x : List ℤ) : Type 0 where
  pub before : List ℤ
  pub room : length before ≡ 154
  pub first : Bool
  pub second : Bool
  pub is : x ≡ drop 80 (shrunk second (shrunk first before ++ take 40 w) ++ drop 40 w)

-- x is one of the eight that two frames of the 160 words w may leave
pub record LeftByTwo (w x : List ℤ) : Type 0 where
  pub second : Bool
  pub third : Bool
  pub fourth : Bool
  pub is : x ≡ window_words second third fourth w

-- ---- lengths

pub length_words : (a y : List ℤ) (p : ℕ) → length (subframe_words a y p) ≡ 40
unfolding subframe_words
length_words a y p = length_tab 40 _

pub length_frame_words : (a b y : List ℤ) → length (frame_words a b y) ≡ 80
unfolding frame_words
length_frame_words a b y = simp (length-append, length_words)

pub length_shrunk : (b : Bool) (l : List ℤ) → length (shrunk b l) ≡ length l
unfolding shrunk
length_shrunk true l = length_divide_by_4 l
length_shrunk false l = refl

-- ---- two frames

pub shrunk_append : (b : Bool) (l r : List ℤ) → shrunk b (l ++ r) ≡ shrunk b l ++ shrunk b r
unfolding shrunk divide_by_4
shrunk_append true l r = map-append _ l r
shrunk_append false l r = refl
