-- A file that is read through a buffer: what is at hand of it.
use Rattle.std.specs.Prelude.{Bool, true, false, ◌&&◌, ℕ, ◌+◌, ◌≤◌, ltb}
use Rattle.source.specs.declared.Source.{Source}

-- the bytes at hand are inside of the buffer
pub record Inside (s : Source) (room : ℕ) : Type 0 where
  pub order : s.from ≤ s.to
  pub end : s.to ≤ room

-- a file of unknown length of which n bytes are at hand: 2 ^ 64 - 1, more than a file has, may follow
unfoldable pub raw : ℕ → Source
raw n = record { from = 0; to = n; ended = false; good = true; left = 18446744073709551615 }

-- with more bytes used
unfoldable pub used : Source → ℕ → Source
used s bytes = record { from = s.from + bytes; to = s.to; ended = s.ended; good = s.good; left = s.left }

-- fewer bytes than 2 ^ 32, which a WAV file can't say that it has, are still due
unfoldable pub cut : Source → Bool
cut s = ltb 0 s.left && ltb s.left 4294967296
