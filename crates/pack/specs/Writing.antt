-- What change request 7 claims of writing and reading frames, on the definitions of the calls; proved in proofs/Undo.antt.
use Rattle.std.specs.Prelude.{◌≡◌, Bool, true, false, List, ◌++◌, ℕ, ◌-◌, ◌<◌, length, get_or, take, drop}
use Rattle.bitstream.specs.Fields.{unpack, fields_call, answer}
use Rattle.pitch.specs.Pitch.{parity_ok}
use Rattle.pack.specs.Pack.{pack, parity_bit, with_p0, write_fields, write_fields_parity}

-- whether a frame passes parity, as a decoder tests it (clause 3.7.2)
abbrev pub passes : List ℕ → Bool
passes frame = parity_ok (unpack frame).p1 (unpack frame).p0

-- the fourteen fields with the other P0 than the one that is supplied
abbrev pub with_other_p0 : List ℕ → List ℕ
with_other_p0 fs = with_p0 (1 - parity_bit (get_or fs 4 0)) fs

-- fifteen fields without P0
unfoldable pub without_p0 : List ℕ → List ℕ
without_p0 fs = take 5 fs ++ drop 6 fs

pub record Writing : Type 0 where
  -- reading what was written returns the fields
  pub read_written : (fs bytes frame receiver : List ℕ) → write_fields fs bytes ≡ answer 0 frame → length receiver ≡ 15 → fields_call frame receiver ≡ answer 0 fs
  -- writing what was read from any ten bytes returns the bytes, and is never refused
  pub write_read : (frame receiver fs bytes : List ℕ) → ((i : ℕ) → get_or frame i 0 < 256) → fields_call frame receiver ≡ answer 0 fs → length bytes ≡ 10
      → write_fields fs bytes ≡ answer 0 frame
  -- what the second call writes, the first writes with the P0 that is supplied
  pub supplied : (fs bytes frame : List ℕ) → write_fields_parity fs bytes ≡ answer 0 frame → write_fields (with_p0 (parity_bit (get_or fs 4 0)) fs) bytes ≡ answer 0 frame
  -- it passes parity
  pub supplied_passes : (fs bytes frame : List ℕ) → write_fields_parity fs bytes ≡ answer 0 frame → passes frame ≡ true
  -- the same fields with the other P0 are written too, and fail it
  pub other_written : (fs bytes frame : List ℕ) → write_fields_parity fs bytes ≡ answer 0 frame → write_fields (with_other_p0 fs) bytes ≡ answer 0 (pack (with_other_p0 fs))
  pub other_fails : (fs bytes frame : List ℕ) → write_fields_parity fs bytes ≡ answer 0 frame → passes (pack (with_other_p0 fs)) ≡ false
  -- the second call on the fields of a frame that passes parity, P0 left out, returns the frame
  pub parity_write_read : (frame receiver fs bytes : List ℕ) → ((i : ℕ) → get_or frame i 0 < 256) → fields_call frame receiver ≡ answer 0 fs → passes frame ≡ true → length bytes ≡ 10
      → write_fields_parity (without_p0 fs) bytes ≡ answer 0 frame
