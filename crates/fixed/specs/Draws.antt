-- The draws of erased frames (clause 4.4.4 and equation (96) of ITU-T G.729): how long they take to return, and which bits of a seed matter. Proved in specs/Period.antt.
use Rattle.std.specs.Prelude.{ℕ, ◌%◌, ◌^◌, ◌≤◌, ◌<◌, ◌≡◌, Bool, ◌&&◌, ◌↔◌, T, ℤ, pos, negsuc}
use Rattle.std.specs.Int.Signed.{le_z}
use Rattle.laws.specs.Loops.{steps}
use Rattle.basic_op.specs.Ops.{low16}
use Rattle.fixed.specs.Fixed.{random, random_index}

-- the seed after n draws
abbrev pub draws : ℕ → ℤ → ℤ
draws n s = steps (λ _ x. random x) n s

-- a word of 16 bits
unfoldable pub word : ℤ → Bool
word x = le_z (negsuc 32767) x && le_z x (pos 32767)

-- the number of seeds
abbrev pub all_seeds : ℕ
all_seeds = 65536

-- the draw visits all 65,536 seeds before it returns
pub record Period : Type 0 where
  -- it returns after as many draws as there are seeds
  pub returns : (x : ℤ) → T (word x) → draws all_seeds x ≡ x
  -- and after no number of draws that isn't a multiple of that
  pub no_earlier : (x : ℤ) (n : ℕ) → draws n x ≡ x → n % all_seeds ≡ 0
  -- from every seed every seed is drawn before
  pub visits : (x y : ℤ) → T (word x) → T (word y) → (k : ℕ) × (k < all_seeds) × (draws k x ≡ y)
  -- the j low bits of a seed return after 2 ^ j draws, and after no other number but its multiples: two numbers of draws from one seed give the same
  -- j bits just where they agree modulo 2 ^ j
  pub low_bits : (j : ℕ) → j ≤ 16 → (s : ℤ) (m n : ℕ) → (low16 (draws m s) % 2 ^ j ≡ low16 (draws n s) % 2 ^ j) ↔ (m % 2 ^ j ≡ n % 2 ^ j)
  -- what an erased subframe draws, index and signs, is made of the 13 low bits of the seed, and so are those of the seed that it leaves
  pub low_drawn : (x y : ℤ) → low16 x % 2 ^ 13 ≡ low16 y % 2 ^ 13 →
      ((random_index x).index ≡ (random_index y).index) × ((random_index x).sign ≡ (random_index y).sign) × (low16 (random_index x).seed % 2 ^ 13 ≡ low16 (random_index y).seed % 2 ^ 13)
