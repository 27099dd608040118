-- No damaged byte of a job file goes unnoticed: a file whose check sum fits, with one byte changed, is refused with 22, and so is any that was packed. Assumes nothing.
use Rattle.std.specs.Prelude.{◌≡◌, refl, Bool, true, false, List, ℕ, ◌+◌, ◌-◌, ◌^◌, ◌≤◌, ◌<◌, ltb, ℤ, length}
use Rattle.std.proofs.Math.Path.{sym, ap}
use Rattle.std.proofs.Common.{◌∙◌, length-set}
use native.Mathlib.Omega.{arith}
use borrow.Author.Tests.{ne_eqb, eqb-true, ltb-true, ltb-false}
use Rattle.std.specs.Int.Signed.{mag}
use Rattle.std.proofs.Math.ListN.{take, drop, get_or, set, length-take, length-drop}
use Rattle.std.proofs.Math.Seq.{take-set-lt, drop-set-lt, drop-set-add, take_all, get_or-take, get_or-drop}
use Rattle.std.proofs.lemmas.List.{take-set-le}
use Rattle.laws.specs.Lists.{at}
use Rattle.words.specs.Words.{Bytes, number}
use Rattle.words.specs.Laws.{bytes_take, bytes_drop, number_set}
use Rattle.crc32.specs.Crc32.{crc32}
use Rattle.crc32.specs.Laws.{crc32_set}
use Rattle.job.specs.declared.Saved.{Saved}
use Rattle.job.specs.Job.{sum_at, file_length, pack, sum_fits, fits, check}
use Rattle.job.specs.Laws.{check_sum}
use Rattle.whole_job.specs.Back.{pack_length, pack_bytes, pack_sum}

module _ (f : List ℕ) (k v : ℕ) (a : Bytes f) (n : length f ≡ file_length) (h : k < file_length) (j : v < 256) (d : v ≡ get_or f k 0 → ⊥) (s : sum_fits f ≡ true) where
  sum : number (take 4 (drop sum_at f)) ≡ crc32 (take sum_at f)
  unfolding sum_fits
  sum = eqb-true _ _ s

  -- before the sum
  below : k < sum_at → sum_fits (set f k v) ≡ false
  unfolding sum_fits
  below i =
      rw (take-set-lt sum_at f k v i, drop-set-lt sum_at f k v i)
      (ne_eqb (number (take 4 (drop sum_at f))) (crc32 (set (take sum_at f) k v)) (λ e. d (crc32_set (take sum_at f) k v (bytes_take sum_at f a) (rw length-take (omega arith)) j (sym e ∙ sum) ∙ get_or-take sum_at f k 0 i)))

  -- in the sum
  above : sum_at ≤ k → sum_fits (set f k v) ≡ false
  unfolding sum_fits
  above i =
      let m : sum_at + (k - sum_at) ≡ k = omega arith in
      let g : drop sum_at (set f k v) ≡ set (drop sum_at f) (k - sum_at) v = ap (λ (i : ℕ). drop sum_at (set f i v)) (sym m) ∙ drop-set-add sum_at f (k - sum_at) v in
      let t : take 4 (set (drop sum_at f) (k - sum_at) v) ≡ set (drop sum_at f) (k - sum_at) v = take_all 4 _ (simp (length-set, length-drop) (omega arith)) in
      let u : take 4 (drop sum_at f) ≡ drop sum_at f = take_all 4 _ (simp length-drop (omega arith)) in
      rw (take-set-le sum_at f k v i, g, t)
      (ne_eqb (number (set (drop sum_at f) (k - sum_at) v)) (crc32 (take sum_at f)) (λ e. d (number_set (drop sum_at f) (k - sum_at) v (bytes_drop sum_at f a) (simp length-drop (omega arith)) j (e ∙ sym sum ∙ ap number u) ∙ get_or-drop sum_at f (k - sum_at) 0 ∙ ap (λ (i : ℕ). get_or f i 0) m)))

  -- 22, whichever byte it is and whichever tables are at hand
  pub damaged : (tables : ℕ) → check (set f k v) tables ≡ 22
  damaged tables = sym (check_sum (set f k v) tables (length-set f k v ∙ n) (by (ltb k sum_at) refl))
    where
      by : (t : Bool) → ltb k sum_at ≡ t → sum_fits (set f k v) ≡ false
      by true e = below (ltb-true _ _ e)
      by false e = above (ltb-false _ _ e)

-- one byte of what was packed damaged: 22
pub pack_damaged : (b : List ℤ) (p : Saved) → length b ≡ 234 → ((k : ℕ) → mag (at b k) < 32768) → fits p ≡ true → p.tables < 2 ^ 32 → p.call < 2 ^ 32
    → (k v tables : ℕ) → k < file_length → v < 256 → (v ≡ get_or (pack b p) k 0 → ⊥) → check (set (pack b p) k v) tables ≡ 22
pack_damaged b p n w e t c k v tables h j d =
    damaged (pack b p) k v (pack_bytes b p n w e t c) (pack_length b p n w e t c) h j d (pack_sum b p n w e t c) tables
