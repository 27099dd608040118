-- Bytes to samples and back (change request 8): a sample that is a table value turns back into its byte, mu-law zero into FF. The way from bytes to samples and back is in proofs/Undo.antt. Assumes nothing.
use Rattle.std.specs.Prelude.{◌≡◌, true, ℕ, ◌<◌, ltb, ℤ, length}
use Rattle.std.proofs.Math.Path.{refl}
use Rattle.std.proofs.Common.{◌∙◌}
use mathlib.Core.List.{List, [], ◌∷◌, map}
use Rattle.std.proofs.lemmas.List.{length-map}
use borrow.Author.Tests.{eq-eqb, ltb-true}
use Rattle.g711.specs.G711.{known, value, byte_of, all_values, read, written, refusal, read_call, write_call}
use Rattle.laws.specs.Loops.{both_hold}
use Rattle.g711.specs.Laws.{last_is}

module _ (law : ℕ) (e : known law ≡ true) where
  -- a table value is the sample of the byte that it turns into
  pub sample_byte : (z : ℤ) → byte_of law z < 256 → value law (byte_of law z) ≡ z
  unfolding byte_of
  sample_byte z h = last_is (value law) z 256 h

  samples_back : (l : List ℤ) → all_values law l ≡ true → map (value law) (map (byte_of law) l) ≡ l
  unfolding all_values
  samples_back [] v = refl
  samples_back (z ∷ l) v =
      let two = both_hold (ltb (byte_of law z) 256) (all_values law l) v in
      let p = sample_byte z (ltb-true (byte_of law z) 256 two.0) in
      let q = samples_back l two.1 in
      λ i. p i ∷ q i

  -- what is written of table values reads back as these
  pub write_read : (samples s : List ℤ) (lent : List ℕ) → all_values law samples ≡ true → length lent ≡ length samples → length samples ≡ length s
      → (write_call law samples lent ≡ written 0 (map (byte_of law) samples)) × (read_call law (map (byte_of law) samples) s ≡ read 0 samples)
  unfolding read_call write_call refusal
  write_read samples s lent v n m = (
    rw (e, eq-eqb (length lent) (length samples) n, v),
    rw (e, eq-eqb (length (map (byte_of law) samples)) (length s) (length-map samples (byte_of law) ∙ m), samples_back samples v),
  )
