-- Laws of the fields: their bounds, and a frame read by its halves. Assumes nothing.
use Rattle.std.specs.Prelude.{◌≡◌, refl, List, [], ◌∷◌, ℕ, ◌+◌, ◌*◌, ◌/◌, ◌%◌, ◌^◌, ◌<◌, get_or, drop}
use Rattle.std.proofs.Common.{ap, sym, ◌∙◌, arith, add-zero, mod-lt, one-mul, lit<, pow_pos, shr-shr, shl_exact, get_or-drop}
use Rattle.std.proofs.Math.Nat.{mul-add-mod_self_right}
use Rattle.std.proofs.Math.Pow.{high, field, mod-mod-pow}
use Rattle.bitstream.specs.Fields.{number, bits, widths, sum, cut, fields, unpack}
use Rattle.bitstream.specs.declared.SpeechParams.{SpeechParams}

-- ---- two frames: every field 1; and the first bit and the last four set

ones : fields (0x81 ∷ 0x08 ∷ 0x40 ∷ 0x60 ∷ 0x01 ∷ 0x12 ∷ 0x21 ∷ 0x00 ∷ 0x08 ∷ 0x91 ∷ []) ≡ 1 ∷ 1 ∷ 1 ∷ 1 ∷ 1 ∷ 1 ∷ 1 ∷ 1 ∷ 1 ∷ 1 ∷ 1 ∷ 1 ∷ 1 ∷ 1 ∷ 1 ∷ []
unfolding fields widths sum cut bits number
ones = refl

ends : fields (0x80 ∷ 0 ∷ 0 ∷ 0 ∷ 0 ∷ 0 ∷ 0 ∷ 0 ∷ 0 ∷ 0x0f ∷ []) ≡ 1 ∷ 0 ∷ 0 ∷ 0 ∷ 0 ∷ 0 ∷ 0 ∷ 0 ∷ 0 ∷ 0 ∷ 0 ∷ 0 ∷ 0 ∷ 0 ∷ 15 ∷ []
unfolding fields widths sum cut bits number
ends = refl

-- ---- bounds

pub bits_lt : (n low width : ℕ) → bits n low width < 2 ^ width
unfolding bits
bits_lt n low width = mod-lt (n / 2 ^ low) (pow_pos width)

-- each number is below 2 to its width
pub record Within (p : SpeechParams) : Type 0 where
  pub l0 : p.l0 < 2
  pub l1 : p.l1 < 128
  pub l2 : p.l2 < 32
  pub l3 : p.l3 < 32
  pub p1 : p.p1 < 256
  pub p0 : p.p0 < 2
  pub c1 : p.c1 < 8192
  pub s1 : p.s1 < 16
  pub ga1 : p.ga1 < 8
  pub gb1 : p.gb1 < 16
  pub p2 : p.p2 < 32
  pub c2 : p.c2 < 8192
  pub s2 : p.s2 < 16
  pub ga2 : p.ga2 < 8
  pub gb2 : p.gb2 < 16

pub within : (l : List ℕ) → Within (unpack l)
unfolding unpack fields widths sum cut
within l =
    let n = number l 10 in
    record {
      l0 = bits_lt n 79 1;
      l1 = bits_lt n 72 7;
      l2 = bits_lt n 67 5;
      l3 = bits_lt n 62 5;
      p1 = bits_lt n 54 8;
      p0 = bits_lt n 53 1;
      c1 = bits_lt n 40 13;
      s1 = bits_lt n 36 4;
      ga1 = bits_lt n 33 3;
      gb1 = bits_lt n 29 4;
      p2 = bits_lt n 24 5;
      c2 = bits_lt n 11 13;
      s2 = bits_lt n 7 4;
      ga2 = bits_lt n 4 3;
      gb2 = bits_lt n 0 4;
    }

-- ---- a frame by its halves of 40 bits

-- a mask, as the code makes it
pub one_shl : (n : ℕ) → n < 64 → (1 * 2 ^ n) % 2 ^ 64 ≡ 2 ^ n
one_shl n h = shl_exact 1 n 64 (lit< tt) (omega arith) ∙ one-mul (2 ^ n)

-- five bytes from byte k on
pub five : (l : List ℕ) (k b0 b1 b2 b3 b4 : ℕ) → b0 ≡ get_or l k 0 → b1 ≡ get_or l (k + 1) 0 → b2 ≡ get_or l (k + 2) 0 → b3 ≡ get_or l (k + 3) 0 → b4 ≡ get_or l (k + 4) 0
    → (((b0 * 256 + b1) * 256 + b2) * 256 + b3) * 256 + b4 ≡ number (drop k l) 5
unfolding number
five l k b0 b1 b2 b3 b4 e0 e1 e2 e3 e4 = simp (get_or-drop, add-zero) (omega arith)

-- the whole is the first five bytes above the others
pub halves : (l : List ℕ) → number l 10 ≡ number l 5 * 2 ^ 40 + number (drop 5 l) 5
unfolding number
halves l = simp get_or-drop (omega arith)

-- a field that lies above the low half
pub upper : (hi lo low width : ℕ) → lo < 2 ^ 40 → bits (hi * 2 ^ 40 + lo) (40 + low) width ≡ bits hi low width
unfolding bits
upper hi lo low width h = ap (λ (x : ℕ). x % 2 ^ width) (sym (shr-shr (hi * 2 ^ 40 + lo) 40 low) ∙ ap (λ (x : ℕ). x / 2 ^ low) (high hi 40 h))

-- a field that lies within the low part, `rest` bits below its end
pub lower : (hi lo rest width low : ℕ) → bits (hi * 2 ^ (rest + (width + low)) + lo) low width ≡ bits lo low width
unfolding bits
lower hi lo rest width low =
    sym (field (hi * 2 ^ (rest + (width + low)) + lo) width low) ∙ ap (λ (x : ℕ). x / 2 ^ low) (kept (width + low)) ∙ field lo width low
  where
    kept : (m : ℕ) → (hi * 2 ^ (rest + m) + lo) % 2 ^ m ≡ lo % 2 ^ m
    kept m =
        sym (mod-mod-pow (hi * 2 ^ (rest + m) + lo) rest m)
        ∙ ap (λ (x : ℕ). x % 2 ^ m) (mul-add-mod_self_right hi (2 ^ (rest + m)) lo)
        ∙ mod-mod-pow lo rest m

-- ---- the operation Fields

-- the struct's numbers in the order of their bits
pub in_order : (l : List ℕ) (p : SpeechParams) → p ≡ unpack l
    → p.l0 ∷ p.l1 ∷ p.l2 ∷ p.l3 ∷ p.p1 ∷ p.p0 ∷ p.c1 ∷ p.s1 ∷ p.ga1 ∷ p.gb1 ∷ p.p2 ∷ p.c2 ∷ p.s2 ∷ p.ga2 ∷ p.gb2 ∷ [] ≡ fields l
unfolding unpack fields widths sum cut
in_order l p e = rw e
