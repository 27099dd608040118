-- A state file hands a job on to the same tables. Assumes nothing.
use Rattle.std.specs.Prelude.{◌≡◌, ℕ, ◌<◌, ℤ, Ok}
use Rattle.std.proofs.Math.Path.{sym, ap}
use Rattle.std.proofs.Common.{◌∙◌}
use mathlib.Core.List.{List}
use Rattle.std.specs.Int.Signed.{mag}
use Rattle.std.proofs.Math.ListN.{length}
use Rattle.crc32.specs.Crc32.{crc32}
use Rattle.laws.specs.Lists.{at}
use Rattle.words.specs.Words.{Bytes}
use Rattle.job.specs.declared.Saved.{Saved}
use Rattle.job.specs.Job.{pack, answer, read}
use Rattle.whole_job.specs.Back.{pack_read}
use Rattle.whole_job.specs.Resume.{Good, has_sum, has_call}

module _ (file text all : List ℕ) (b : List ℤ) (p : Saved) (out : List ℕ) (good : Good file text all b p out)
    (a : Bytes file) (c : Bytes text) (n : length b ≡ 234) (w : (k : ℕ) → mag (at b k) < 32768) (lent : List ℤ) where
  pub good_file : read (pack b p) (crc32 file) lent ≡ answer (Ok p) b
  good_file = ap (λ (s : ℕ). read (pack b p) s lent) (sym good.of_tables) ∙ pack_read b p n w good.able (has_sum file text all b p out good a c n w lent) (has_call file text all b p out good a c n w lent) lent good.accepted
