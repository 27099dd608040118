-- Laws of writing: fields and bytes are one number cut in two ways, so one law on cutting serves both; a frame written by its halves. Assumes nothing.
use Rattle.std.specs.Prelude.{◌≡◌, refl, Bool, true, false, cond, ◌&&◌, List, [], ◌∷◌, ◌++◌, ℕ, zero, suc, ◌+◌, ◌-◌, ◌*◌, ◌/◌, ◌%◌, ◌^◌, ◌≤◌, ◌<◌, T, ltb, eqb, length, get_or, take, drop}
use Rattle.std.proofs.Common.{sym, ap, ap₂, ◌∙◌, subst, arith, mod-lt, mod-eq_of_lt, lit<, ltb→lt, lt→ltb, pow_pos, pow-add, length-drop, take_all, drop-cons, eq-eqb, eqb-true}
use Rattle.std.proofs.Math.Bool.{and_assoc, and-true}
use Rattle.std.proofs.Math.Pow.{high, low}
use Rattle.std.proofs.lemmas.Nat.{mod-pow-add}
use Rattle.std.proofs.Math.Facts.{and_yes, yes_and}
use Rattle.bitstream.specs.Fields.{number, bits, widths, sum, cut, fields, answer}
use Rattle.bitstream.specs.declared.SpeechParams.{SpeechParams}
use Rattle.pack.specs.Pack.{joined, fits, octets, pack, with_p0, packed, write_call}

-- ---- numbers cut into fields of any widths

-- values that fit make a number of as many bits as their widths have together
pub joined_lt : (ws vs : List ℕ) → T (fits ws vs) → joined ws vs < 2 ^ sum ws
unfolding joined fits sum
joined_lt [] [] h = lit< tt
joined_lt [] (v ∷ vs) h = absurd h
joined_lt (w ∷ ws) [] h = absurd h
joined_lt (w ∷ ws) (v ∷ vs) h =
    let p = and_yes (ltb v (2 ^ w)) (fits ws vs) h in
    let a : v < 2 ^ w = ltb→lt v (2 ^ w) p.0 in
    let b = joined_lt ws vs p.1 in
    rw (pow-add 2 w (sum ws)) (below v (2 ^ w) (joined ws vs) (2 ^ sum ws) a b)
  where
    below : (v a j b : ℕ) → v < a → j < b → v * b + j < a * b
    below v a j b h g = let e : a ≡ suc v + (a - suc v) = omega arith in rw e (omega arith)

-- they are its fields, under any number in front
pub cut_joined : (ws vs : List ℕ) (h : ℕ) → T (fits ws vs) → cut ws (h * 2 ^ sum ws + joined ws vs) ≡ vs
unfolding cut joined fits sum bits
cut_joined [] [] h t = refl
cut_joined [] (v ∷ vs) h t = absurd t
cut_joined (w ∷ ws) [] h t = absurd t
cut_joined (w ∷ ws) (v ∷ vs) h t =
    let p = and_yes (ltb v (2 ^ w)) (fits ws vs) t in
    let a : v < 2 ^ w = ltb→lt v (2 ^ w) p.0 in
    let b = joined_lt ws vs p.1 in
    let n : h * 2 ^ (w + sum ws) + (v * 2 ^ sum ws + joined ws vs) ≡ (h * 2 ^ w + v) * 2 ^ sum ws + joined ws vs =
    ap (λ (x : ℕ). h * x + (v * 2 ^ sum ws + joined ws vs)) (pow-add 2 w (sum ws)) ∙ again h (2 ^ w) v (2 ^ sum ws) (joined ws vs) in
    rw n (ap₂ {C = List ℕ} (λ x l. x ∷ l) (ap (λ (x : ℕ). x % 2 ^ w) (high (h * 2 ^ w + v) (sum ws) b) ∙ low h w a) (cut_joined ws vs (h * 2 ^ w + v) p.1))
  where
    again : (h a v b j : ℕ) → h * (a * b) + (v * b + j) ≡ (h * a + v) * b + j
    again h a v b j = omega arith

pub cut_of : (ws vs : List ℕ) → T (fits ws vs) → cut ws (joined ws vs) ≡ vs
cut_of ws vs t = ap (cut ws) (sym (zero_front (sum ws) (joined ws vs))) ∙ cut_joined ws vs 0 t
  where
    zero_front : (k j : ℕ) → 0 * 2 ^ k + j ≡ j
    zero_front k j = omega arith

-- the fields of a number, put together, are its lowest bits
pub joined_cut : (ws : List ℕ) (n : ℕ) → joined ws (cut ws n) ≡ n % 2 ^ sum ws
unfolding cut joined sum bits
joined_cut [] n = omega arith
joined_cut (w ∷ ws) n = ap (λ (x : ℕ). (n / 2 ^ sum ws) % 2 ^ w * 2 ^ sum ws + x) (joined_cut ws n) ∙ sym (mod-pow-add n w (sum ws))

-- and fit
pub fits_cut : (ws : List ℕ) (n : ℕ) → T (fits ws (cut ws n))
unfolding cut fits bits
fits_cut [] n = tt
fits_cut (w ∷ ws) n = yes_and (ltb ((n / 2 ^ sum ws) % 2 ^ w) (2 ^ w)) (fits ws (cut ws n)) (lt→ltb _ _ (mod-lt (n / 2 ^ sum ws) (pow_pos w))) (fits_cut ws n)

-- those behind the first n fit too
pub fits_drop : (n : ℕ) (ws vs : List ℕ) → T (fits ws vs) → T (fits (drop n ws) (drop n vs))
unfolding fits
fits_drop zero ws vs t = t
fits_drop (suc n) [] [] t = t
fits_drop (suc n) [] (v ∷ vs) t = absurd t
fits_drop (suc n) (w ∷ ws) [] t = absurd t
fits_drop (suc n) (w ∷ ws) (v ∷ vs) t = fits_drop n ws vs (and_yes (ltb v (2 ^ w)) (fits ws vs) t).1

-- ---- bytes as one number are fields of eight bits

number_front : (x : ℕ) (l : List ℕ) (n : ℕ) → number (x ∷ l) (suc n) ≡ x * 2 ^ sum (octets n) + number l n
unfolding number sum octets
number_front x l zero = omega arith
number_front x l (suc n) =
    ap (λ (k : ℕ). 256 * k + get_or l n 0) (number_front x l n)
    ∙ more x (2 ^ sum (octets n)) (number l n) (get_or l n 0)
    ∙ ap (λ (k : ℕ). x * k + (256 * number l n + get_or l n 0)) (sym (pow-add 2 8 (sum (octets n))))
  where
    more : (x p m y : ℕ) → 256 * (x * p + m) + y ≡ x * (2 ^ 8 * p) + (256 * m + y)
    more x p m y = omega arith

pub number_joined : (n : ℕ) (l : List ℕ) → T (fits (octets n) l) → number l n ≡ joined (octets n) l
unfolding octets joined fits number
number_joined zero [] t = refl
number_joined zero (x ∷ l) t = absurd t
number_joined (suc n) [] t = absurd t
number_joined (suc n) (x ∷ l) t =
    number_front x l n ∙ ap (λ (k : ℕ). x * 2 ^ sum (octets n) + k) (number_joined n l (and_yes (ltb x (2 ^ 8)) (fits (octets n) l) t).1)

-- ---- both ways

same_size : sum widths ≡ sum (octets 10)
unfolding sum widths octets
same_size = refl

-- the fields of what was written
pub fields_pack : (fs : List ℕ) → T (fits widths fs) → fields (pack fs) ≡ fs
unfolding fields pack
fields_pack fs t =
    let n = joined widths fs in
    let small : n < 2 ^ sum (octets 10) = subst (λ (k : ℕ). n < 2 ^ k) same_size (joined_lt widths fs t) in
    ap (cut widths) (number_joined 10 (cut (octets 10) n) (fits_cut (octets 10) n) ∙ joined_cut (octets 10) n ∙ mod-eq_of_lt small) ∙ cut_of widths fs t

-- what was read, written
pub pack_fields : (l : List ℕ) → T (fits (octets 10) l) → pack (fields l) ≡ l
unfolding fields pack
pack_fields l t =
    let e : number l 10 ≡ joined (octets 10) l = number_joined 10 l t in
    let small : number l 10 < 2 ^ sum widths = subst (λ (k : ℕ). k < 2 ^ sum widths) (sym e) (subst (λ (k : ℕ). joined (octets 10) l < 2 ^ k) (sym same_size) (joined_lt (octets 10) l t)) in
    ap (cut (octets 10)) (joined_cut widths (number l 10) ∙ mod-eq_of_lt small ∙ e) ∙ cut_of (octets 10) l t

-- what is read is never too wide
pub fields_fit : (l : List ℕ) → T (fits widths (fields l))
unfolding fields
fields_fit l = fits_cut widths (number l 10)

-- ---- what the code works on

-- the numbers of the struct in the order of their bits
abbrev pub listed : SpeechParams → List ℕ
listed p = p.l0 ∷ p.l1 ∷ p.l2 ∷ p.l3 ∷ p.p1 ∷ p.p0 ∷ p.c1 ∷ p.s1 ∷ p.ga1 ∷ p.gb1 ∷ p.p2 ∷ p.c2 ∷ p.s2 ∷ p.ga2 ∷ p.gb2 ∷ []

-- whether it fits, test by test
pub each_fits : (p : SpeechParams)
    → ltb p.l0 2 && ltb p.l1 128 && ltb p.l2 32 && ltb p.l3 32 && ltb p.p1 256 && ltb p.p0 2 && ltb p.c1 8192
    && ltb p.s1 16 && ltb p.ga1 8 && ltb p.gb1 16 && ltb p.p2 32 && ltb p.c2 8192 && ltb p.s2 16 && ltb p.ga2 8 && ltb p.gb2 16
    ≡ fits widths (listed p)
unfolding fits widths
each_fits p =
    bracketed (ltb p.l0 2) (ltb p.l1 128) (ltb p.l2 32) (ltb p.l3 32) (ltb p.p1 256) (ltb p.p0 2) (ltb p.c1 8192)
    (ltb p.s1 16) (ltb p.ga1 8) (ltb p.gb1 16) (ltb p.p2 32) (ltb p.c2 8192) (ltb p.s2 16) (ltb p.ga2 8) (ltb p.gb2 16)
  where
    bracketed : (a b c d e f g h i j k l m n o : Bool)
        → a && b && c && d && e && f && g && h && i && j && k && l && m && n && o
        ≡ (a && (b && (c && (d && (e && (f && (g && (h && (i && (j && (k && (l && (m && (n && (o && true)))))))))))))))
    bracketed a b c d e f g h i j k l m n o = simp (and_assoc, and-true)

-- its halves of 40 bits: seven fields, and eight
pub halves : (p : SpeechParams) → joined widths (listed p) ≡ joined (take 7 widths) (take 7 (listed p)) * 2 ^ 40 + joined (drop 7 widths) (drop 7 (listed p))
unfolding joined widths sum
halves p = omega arith

-- the second half of fields that fit
pub second_lt : (p : SpeechParams) → T (fits widths (listed p)) → joined (drop 7 widths) (drop 7 (listed p)) < 2 ^ 40
unfolding widths sum
second_lt p t = joined_lt (drop 7 widths) (drop 7 (listed p)) (fits_drop 7 widths (listed p) t)

-- n numbers of a list from place k on, one by one
unfoldable pub cells : ℕ → ℕ → List ℕ → List ℕ
cells zero k l = []
cells (suc n) k l = get_or l k 0 ∷ cells n (k + 1) l

pub cells_are : (n k : ℕ) (l : List ℕ) → k + n ≤ length l → cells n k l ≡ take n (drop k l)
unfolding cells
cells_are zero k l h = refl
cells_are (suc n) k l h =
    let e : k + 1 ≡ suc k = omega arith in
    rw (cells_are n (k + 1) l (omega arith), e, drop-cons l k 0 (omega arith))

-- ---- the lengths that are tested first

-- 0, or the refusal
unfoldable pub lengths : ℕ → ℕ → ℕ → ℕ
lengths n due bytes = cond (eqb n due) (cond (eqb bytes 10) 0 6) 8

pub refused : (n due : ℕ) (fs bytes : List ℕ) → eqb (lengths n due (length bytes)) 0 ≡ false → write_call n due fs bytes ≡ answer (lengths n due (length bytes)) bytes
unfolding lengths write_call
refused n due fs bytes = by (eqb n due) (eqb (length bytes) 10)
  where
    by : (p q : Bool) → eqb (cond p (cond q 0 6) 8) 0 ≡ false → cond p (cond q (packed fs bytes) (answer 6 bytes)) (answer 8 bytes) ≡ answer (cond p (cond q 0 6) 8) bytes
    by true true h = absurd (subst T h tt)
    by true false h = refl
    by false q h = refl

-- what is known where both are right
pub record Right (n due : ℕ) (bytes : List ℕ) : Type 0 where
  pub many : n ≡ due
  pub ten : length bytes ≡ 10

pub right : (n due : ℕ) (bytes : List ℕ) → lengths n due (length bytes) ≡ 0 → Right n due bytes
unfolding lengths
right n due bytes = by (eqb n due) (eqb (length bytes) 10) refl refl
  where
    by : (p q : Bool) → eqb n due ≡ p → eqb (length bytes) 10 ≡ q → ◌≡◌ {A = ℕ} (cond p (cond q 0 6) 8) 0 → Right n due bytes
    by true true e f h = record { many = eqb-true _ _ e; ten = eqb-true _ _ f }
    by true false e f h = absurd (omega arith)
    by false q e f h = absurd (omega arith)

pub taken : (n due : ℕ) (fs bytes : List ℕ) → Right n due bytes → write_call n due fs bytes ≡ packed fs bytes
unfolding write_call
taken n due fs bytes r = rw (eq-eqb _ _ r.many, eq-eqb _ _ r.ten)

-- ---- the fields that the code reads one by one

pub fifteen : (l : List ℕ) → length l ≡ 15 → cells 15 0 l ≡ l
fifteen l h = cells_are 15 0 l (omega arith) ∙ take_all 15 l (omega arith)

-- fourteen, with one more behind the fifth
pub fourteen : (p0 : ℕ) (l : List ℕ) → length l ≡ 14 → cells 5 0 l ++ (p0 ∷ cells 9 5 l) ≡ with_p0 p0 l
unfolding with_p0
fourteen p0 l h = rw (cells_are 5 0 l (omega arith), cells_are 9 5 l (omega arith), take_all 9 (drop 5 l) (rw length-drop (omega arith)))
