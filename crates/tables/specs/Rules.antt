-- What makes the tables of specs/Formula.antt right, entry by entry, in whole numbers alone: `Rules`, at the end.
use Rattle.std.specs.Prelude.{◌≡◌, List, [], ◌∷◌, ℕ, zero, suc, ◌+◌, ◌-◌, ◌*◌, ◌^◌, ◌≤◌, ◌<◌, ℤ, pos, negsuc, ◌+ℤ◌, ◌-ℤ◌, ◌*ℤ◌, length, ◌≤ℤ◌, ◌<ℤ◌}
use Rattle.laws.specs.Lists.{at}
use Rattle.tables.specs.Formula.{lsp_cosine, lsp_cosine_slope, pow2, gain_prediction_coefficients, lsp_quantizer_initial_memory}

-- ---- the power table

-- t is the whole number nearest to 16384 · 2 ^ (i / 32), by the 32nd powers of t - 1/2, of that number and of t + 1/2, each doubled first
pub record Power (i : ℕ) (t : ℤ) : Type 0 where
  pub n : ℕ
  pub is : t ≡ pos n
  pub low : (2 * n - 1) ^ 32 < 32768 ^ 32 * 2 ^ i
  pub high : 32768 ^ 32 * 2 ^ i < (2 * n + 1) ^ 32

-- ---- the cosines, which the two cosine tables are rounded from

-- numbers are held in units of 10 ^ -9
abbrev pub unit : ℤ
unit = pos 1000000000

-- cos (i π / 64) for i from 0 to 64, in these units, each less than a unit off
unfoldable pub cosines : List ℤ
cosines =
    pos 1000000000 ∷ pos 998795456 ∷ pos 995184727 ∷ pos 989176510 ∷ pos 980785280 ∷ pos 970031253 ∷ pos 956940336 ∷ pos 941544065 ∷ pos 923879533 ∷
    pos 903989293 ∷ pos 881921264 ∷ pos 857728610 ∷ pos 831469612 ∷ pos 803207531 ∷ pos 773010453 ∷ pos 740951125 ∷ pos 707106781 ∷ pos 671558955 ∷
    pos 634393284 ∷ pos 595699304 ∷ pos 555570233 ∷ pos 514102744 ∷ pos 471396737 ∷ pos 427555093 ∷ pos 382683432 ∷ pos 336889853 ∷ pos 290284677 ∷
    pos 242980180 ∷ pos 195090322 ∷ pos 146730474 ∷ pos 98017140 ∷ pos 49067674 ∷ pos 0 ∷ negsuc 49067673 ∷ negsuc 98017139 ∷ negsuc 146730473 ∷
    negsuc 195090321 ∷ negsuc 242980179 ∷ negsuc 290284676 ∷ negsuc 336889852 ∷ negsuc 382683431 ∷ negsuc 427555092 ∷ negsuc 471396736 ∷
    negsuc 514102743 ∷ negsuc 555570232 ∷ negsuc 595699303 ∷ negsuc 634393283 ∷ negsuc 671558954 ∷ negsuc 707106780 ∷ negsuc 740951124 ∷
    negsuc 773010452 ∷ negsuc 803207530 ∷ negsuc 831469611 ∷ negsuc 857728609 ∷ negsuc 881921263 ∷ negsuc 903989292 ∷ negsuc 923879532 ∷
    negsuc 941544064 ∷ negsuc 956940335 ∷ negsuc 970031252 ∷ negsuc 980785279 ∷ negsuc 989176509 ∷ negsuc 995184726 ∷ negsuc 998795455 ∷
    negsuc 999999999 ∷ []

-- unit ^ n · U_n (p / unit) and the same for n + 1, where U_n is the Chebyshev polynomial of the second kind:
-- U_0 (x) = 1, U_1 (x) = 2 x, U_(n + 2) (x) = 2 x U_(n + 1) (x) - U_n (x)
unfoldable pub chebyshev : ℤ → ℕ → ℤ × ℤ
chebyshev p zero = (pos 1, pos 2 *ℤ p)
chebyshev p (suc n) = let v = chebyshev p n in (v.1, pos 2 *ℤ p *ℤ v.1 -ℤ unit *ℤ unit *ℤ v.0)

unfoldable pub u63 : ℤ → ℤ
u63 p = (chebyshev p 63).0

-- c is less than a unit from a root of U_63: there is one between c - 1 and c + 1, where U_63 has opposite signs.
-- U_63 (cos θ) = sin (64 θ) / sin θ, so U_63, which is of degree 63, has the roots cos (i π / 64), i from 1 to 63, and no others.
-- So 63 numbers that are each near a root and each at least 2 above the next are near these roots, in their order.
pub record NearRoot (c : ℤ) : Type 0 where
  pub signs : (u63 (c -ℤ pos 1) *ℤ u63 (c +ℤ pos 1)) <ℤ pos 0

-- t is the whole number nearest to x / (2 · unit), for each x between low and high
pub record Nearest (low high t : ℤ) : Type 0 where
  pub below : ((pos 2 *ℤ t -ℤ pos 1) *ℤ unit) ≤ℤ low
  pub above : high ≤ℤ ((pos 2 *ℤ t +ℤ pos 1) *ℤ unit)

-- t is nearest to 32768 cos, where cos is within one unit of c
abbrev pub Cosine : ℤ → ℤ → Type 0
Cosine c t = Nearest (pos 65536 *ℤ (c -ℤ pos 1)) (pos 65536 *ℤ (c +ℤ pos 1)) t

-- t is nearest to 2 ^ 19 (cos' - cos), where cos is within one unit of c and cos' of d
abbrev pub Slope : ℤ → ℤ → ℤ → Type 0
Slope c d t = Nearest (pos 1048576 *ℤ (d -ℤ c -ℤ pos 2)) (pos 1048576 *ℤ (d -ℤ c +ℤ pos 2)) t

-- ---- the short tables

-- t is the whole number nearest to 8192 · h / 100
pub record Hundredths (h t : ℤ) : Type 0 where
  pub low : ((pos 2 *ℤ t -ℤ pos 1) *ℤ pos 100) <ℤ (pos 16384 *ℤ h)
  pub high : (pos 16384 *ℤ h) <ℤ ((pos 2 *ℤ t +ℤ pos 1) *ℤ pos 100)

abbrev pub coefficients : List ℤ
coefficients = pos 68 ∷ pos 58 ∷ pos 34 ∷ pos 19 ∷ []

-- t is 8192 · i · π / 11 cut off, where π is between 3.1415926535 and 3.1415926536
pub record Frequency (i : ℕ) (t : ℤ) : Type 0 where
  pub low : (pos 110000000000 *ℤ t) ≤ℤ pos (8192 * i * 31415926535)
  pub high : pos (8192 * i * 31415926536) <ℤ (pos 110000000000 *ℤ (t +ℤ pos 1))

-- ---- all of it

pub record Rules : Type 0 where
  pub pow2_length : length pow2 ≡ 33
  pub pow2_entry : (i : ℕ) → i < 32 → Power i (at pow2 i)
  pub pow2_last : at pow2 32 ≡ pos 32767
  pub cosines_first : at cosines 0 ≡ unit
  pub cosines_last : at cosines 64 ≡ pos 0 -ℤ unit
  pub cosines_root : (i : ℕ) → 1 ≤ i → i < 64 → NearRoot (at cosines i)
  pub cosines_fall : (i : ℕ) → i < 64 → (at cosines (i + 1) +ℤ pos 2) ≤ℤ at cosines i
  pub cosine_length : length lsp_cosine ≡ 64
  pub cosine_first : at lsp_cosine 0 ≡ pos 32767
  pub cosine_entry : (i : ℕ) → 1 ≤ i → i < 64 → Cosine (at cosines i) (at lsp_cosine i)
  pub slope_length : length lsp_cosine_slope ≡ 64
  pub slope_entry : (i : ℕ) → i < 64 → Slope (at cosines i) (at cosines (i + 1)) (at lsp_cosine_slope i)
  pub coefficient_length : length gain_prediction_coefficients ≡ 4
  pub coefficient_entry : (i : ℕ) → i < 4 → Hundredths (at coefficients i) (at gain_prediction_coefficients i)
  pub memory_length : length lsp_quantizer_initial_memory ≡ 10
  pub memory_entry : (i : ℕ) → i < 10 → Frequency (i + 1) (at lsp_quantizer_initial_memory i)
