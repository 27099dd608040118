-- The call of a job read again, in parts: it is refused with 26 just if it is shorter than what was taken of it, or its bytes up to there have another CRC-32. The job's own call is taken,
-- and a call in which one of these bytes is changed is refused. Assumes nothing.
use Rattle.std.proofs.Math.Path.{◌≡◌, refl, sym}
use Rattle.std.proofs.Common.{ap, ◌∙◌, append-nil, arith, length-append, length-take, get_or-take, take_all}
use Rattle.std.specs.Prelude.{Bool, cond, ◌&&◌, ◌≢◌, List, [], ◌∷◌, ◌++◌, ℕ, ◌+◌, ◌-◌, ◌≤◌, ◌<◌, min, eqb, leb, ℤ, length, take, get_or, set}
use Rattle.std.proofs.Math.Bool.{true, false}
use Rattle.std.proofs.Math.Nat.{sub-zero}
use borrow.Author.Tests.{eq-eqb, ne_eqb, le-leb, lt-leb, leb-true, leb-false}
use Rattle.std.proofs.Math.Seq.{take-set-lt, take-append-add, take-nil}
use Rattle.std.proofs.lemmas.List.{take-append-le}
use Rattle.crc32.specs.Crc32.{crc32, more}
use Rattle.crc32.specs.Laws.{more_append, more_none, crc32_more, other_byte}
use Rattle.words.specs.Words.{Bytes}
use Rattle.words.specs.Laws.{bytes_take}
use Rattle.job.specs.declared.Saved.{Saved}
use Rattle.job.specs.declared.parts.Again.{Again}
use Rattle.job.specs.Part.{read_again, call_check}
use Rattle.whole_job.specs.Resume.{Good}

-- reads one behind another, and what they are together
unfoldable pub reads : Again → List (List ℕ) → Again
reads a [] = a
reads a (l ∷ r) = reads (read_again a l) r

unfoldable pub joined : List (List ℕ) → List ℕ
joined [] = []
joined (l ∷ r) = l ++ joined r

-- the front of a list in two parts
front_parts : (n : ℕ) (l m : List ℕ) → take n (l ++ m) ≡ take (min n (length l)) l ++ take (n - min n (length l)) m
front_parts n l m = by (leb n (length l)) refl
  where
    by : (x : Bool) → leb n (length l) ≡ x → take n (l ++ m) ≡ take (min n (length l)) l ++ take (n - min n (length l)) m
    by true e =
        let h : n ≤ length l = leb-true n (length l) e in
        let k : min n (length l) ≡ n = omega arith in
        let z : n - n ≡ 0 = omega arith in
        rw (k, z, append-nil) (take-append-le n l m h)
    by false e =
        let h : length l < n = leb-false n (length l) e in
        let k : min n (length l) ≡ length l = omega arith in
        let i : length l + (n - length l) ≡ n = omega arith in
        rw (k, take_all (length l) l (omega arith)) (ap (λ (x : ℕ). take x (l ++ m)) (sym i) ∙ take-append-add l m (n - length l))

-- all reads together: the CRC-32 of what was taken, as far as it is there, and how much of it is missing
pub reads_all : (s n : ℕ) (r : List (List ℕ)) → reads (record { sum = s; left = n }) r ≡ record { sum = more s (take n (joined r)); left = n - length (joined r) }
unfolding reads joined read_again
reads_all s n [] = rw (take-nil, more_none s, sub-zero)
reads_all s n (l ∷ r) =
    let k : ℕ = min n (length l) in
    let d : n - k - length (joined r) ≡ n - length (l ++ joined r) = rw length-append (omega arith) in
    step ∙ reads_all (more s (take k l)) (n - k) r ∙ rw (more_append, ← front_parts n l (joined r), d)
  where
    step : reads (read_again (record { sum = s; left = n }) l) r
        ≡ reads (record { sum = more s (take (min n (length l)) l); left = n - min n (length l) }) r
    step = refl

-- 26: another call
unfoldable pub other : Saved → List ℕ → ℕ
other p text = cond (leb p.at (length text) && eqb (crc32 (take p.at text)) p.call) 0 26

-- so however the call is read, in parts from its beginning on
pub call_read : (p : Saved) (r : List (List ℕ)) → call_check p (reads (record { sum = 0; left = p.at }) r) ≡ other p (joined r)
unfolding call_check other
call_read p r =
    rw (reads_all 0 p.at r, crc32_more (take p.at (joined r))) (by (leb p.at (length (joined r))) refl)
  where
    same : Bool
    same = eqb (more 0 (take p.at (joined r))) p.call

    by : (x : Bool) → leb p.at (length (joined r)) ≡ x → ◌≡◌ {A = ℕ} (cond (eqb (p.at - length (joined r)) 0 && same) 0 26) (cond (leb p.at (length (joined r)) && same) 0 26)
    by true e = let h : p.at ≤ length (joined r) = leb-true p.at (length (joined r)) e in rw (e, eq-eqb (p.at - length (joined r)) 0 (omega arith))
    by false e = let h : length (joined r) < p.at = leb-false p.at (length (joined r)) e in rw (e, ne_eqb (p.at - length (joined r)) 0 (λ z. omega arith))

module _ (file text all : List ℕ) (b : List ℤ) (p : Saved) (out : List ℕ) (good : Good file text all b p out) where
  -- the job's own call
  pub own_call : other p text ≡ 0
  unfolding other
  own_call = rw (le-leb p.at (length text) good.within, eq-eqb _ _ (sym good.of_call))

  -- a call whose bytes up to the place have another CRC-32
  pub other_call : (text' : List ℕ) → crc32 (take p.at text) ≢ crc32 (take p.at text') → other p text' ≡ 26
  unfolding other
  other_call text' h =
      rw (ne_eqb (crc32 (take p.at text')) p.call (λ e. h (sym good.of_call ∙ sym e))) (by (leb p.at (length text')))
    where
      by : (x : Bool) → ◌≡◌ {A = ℕ} (cond (x && false) 0 26) 26
      by true = refl
      by false = refl

  -- one byte of it changed
  pub changed_call : (k v : ℕ) → Bytes text → k < p.at → v < 256 → (v ≡ get_or text k 0 → ⊥) → other p (set text k v) ≡ 26
  changed_call k v a h j d =
      other_call (set text k v)
      (rw (take-set-lt p.at text k v h)
      (other_byte (take p.at text) k v (bytes_take p.at text a) (rw length-take (omega (arith, good.within))) j (λ e. d (e ∙ get_or-take p.at text k 0 h))))

  -- shorter than what was taken
  pub short_call : (text' : List ℕ) → length text' < p.at → other p text' ≡ 26
  unfolding other
  short_call text' h = rw (lt-leb p.at (length text') h)
