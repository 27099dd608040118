-- Bytes to samples and back (change request 8): each byte but mu-law 7F comes back. Assumes nothing.
use Rattle.std.specs.Prelude.{◌≡◌, true, ℕ, suc, ◌<◌, ℤ, length, get_or}
use Rattle.std.proofs.Math.Path.{refl, sym}
use Rattle.std.proofs.Common.{◌∙◌}
use mathlib.Core.List.{List, [], ◌∷◌, map}
use Rattle.std.proofs.lemmas.List.{length-map}
use borrow.Author.Tests.{eq-eqb, lt-ltb}
use Rattle.g711.specs.G711.{known, value, byte_of, back, all_values, read, written, refusal, read_call, write_call}
use Rattle.g711.proofs.Laws.{there_back, back_lt}

module _ (law : ℕ) (e : known law ≡ true) where
  -- a byte's sample turns back into the byte, but for 7F in mu-law, whose sample, zero, turns into FF
  pub byte_sample : (b : ℕ) → b < 256 → byte_of law (value law b) ≡ back law b
  byte_sample = there_back law e

  bytes_back : (l : List ℕ) → ((k : ℕ) → get_or l k 0 < 256) → map (byte_of law) (map (value law) l) ≡ map (back law) l
  bytes_back [] h = refl
  bytes_back (b ∷ l) h = let p = byte_sample b (h 0) in let q = bytes_back l (λ k. h (suc k)) in λ i. p i ∷ q i

  values_all : (l : List ℕ) → ((k : ℕ) → get_or l k 0 < 256) → all_values law (map (value law) l) ≡ true
  unfolding all_values
  values_all [] h = refl
  values_all (b ∷ l) h =
      rw (lt-ltb (byte_of law (value law b)) 256 (rw (byte_sample b (h 0)) (back_lt law e b (h 0))), values_all l (λ k. h (suc k)))

  -- what is read from bytes is written as these bytes, 7F in mu-law as FF
  pub read_write : (bytes lent : List ℕ) (s : List ℤ) → ((k : ℕ) → get_or bytes k 0 < 256) → length bytes ≡ length s → length lent ≡ length bytes
      → (read_call law bytes s ≡ read 0 (map (value law) bytes)) × (write_call law (map (value law) bytes) lent ≡ written 0 (map (back law) bytes))
  unfolding read_call write_call refusal
  read_write bytes lent s h n m = (
    rw (e, eq-eqb (length bytes) (length s) n),
    rw (e, eq-eqb (length lent) (length (map (value law) bytes)) (m ∙ sym (length-map bytes (value law))), values_all bytes h, bytes_back bytes h),
  )
