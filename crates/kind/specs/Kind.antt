-- The kinds of frame (01, "Operations and their refusals", Frame): 0 voice, 1 SID, 2 no transmission, 3 erased, and the payload that each comes with.
use Rattle.std.specs.Prelude.{Bool, cond, ℕ, eqb, leb}

-- a kind above 3 is refused with 5
abbrev pub known : ℕ → Bool
known kind = leb kind 3

-- ten bytes of voice, two of SID, and none for the others
unfoldable pub payload_length : ℕ → ℕ
payload_length kind = cond (eqb kind 0) 10 (cond (eqb kind 1) 2 0)
