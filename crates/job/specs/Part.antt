-- A resumed call, a part at a time: whether it is the call that the job was begun with, where it is read from and its forms go, how many lines a part has, and what is asked for.
use Rattle.std.specs.Prelude.{ℕ, ◌+◌, ◌-◌, ◌*◌, ◌%◌, ◌^◌, min, cond, ◌&&◌, List, [], ◌∷◌, length, take, ℤ, pos, ◌==◌, nat_le, Option, None, Some}
use Rattle.crc32.specs.Crc32.{more}
use Rattle.line_step.specs.declared.Progress.{Progress}
use Rattle.line_step.specs.Step.{Job, kept}
use Rattle.call.specs.Chunk as Chunk
use Rattle.print.specs.Print.{over}
use Rattle.job.specs.declared.Saved.{Saved}
use Rattle.job.specs.declared.parts.Again.{Again}

-- where in a file a job goes on
unfoldable pub position : ℕ → ℤ
position at = pos (min at 9223372036854775807)

-- ---- the call read again, up to the place

-- one read more: the CRC-32 of the bytes so far, and how many are left of those that were taken
unfoldable pub read_again : Again → List ℕ → Again
read_again a l = let n : ℕ = min a.left (length l) in record { sum = more a.sum (take n l); left = a.left - n }

-- 26: another call than the one that the job was begun with, shorter than what was taken of that, or with other bytes there
unfoldable pub call_check : Saved → Again → ℕ
call_check p a = cond (a.left == 0 && a.sum == p.call) 0 26

-- ---- a part

unfoldable pub progress : Saved → ℕ → Progress
progress p code = record { code = code; lines = p.lines; counts = p.counts }

-- a job that goes on
unfoldable pub going : List ℤ → Saved → Job
going b p = kept b (progress p 0)

-- where it goes on behind a part of the text
unfoldable pub after : Saved → List ℕ → Chunk.Part → Saved
after p input q =
    let used : ℕ = length input - length q.unused in
    record {
      counts = q.job.progress.counts;
      lines = q.job.progress.lines;
      at = (p.at + used) % 2 ^ 64;
      written = (p.written + length q.text) % 2 ^ 64;
      tables = p.tables;
      call = more p.call (take used input);
    }

-- the state block, the code, the place, the number of bytes written, how many lines may follow, and the lent output
pub data Answer : Type 0 where
  answer : List ℤ → ℕ → Saved → ℕ → ℕ → List ℕ → Answer

unfoldable pub taken : Saved → ℕ → List ℕ → List ℕ → Chunk.Part → Answer
taken p most input out q =
    answer q.job.block q.job.progress.code (after p input q) (length q.text) (most - (q.job.progress.lines - p.lines)) (over q.text out)

-- the whole lines at the front of the text from `at` on, at most so many and as many as have room
unfoldable pub part : List ℤ → List ℤ → Saved → ℕ → List ℕ → List ℕ → Answer
part t b p most input out = taken p most input out (Chunk.part t (going b p) most (length out) [] input)

-- ---- what is asked for

-- the number of the digits n and then l, in 32 bits: the greatest of these asks for all, since no call has as many
unfoldable pub digits : ℕ → List ℕ → Option ℕ
digits n [] = Some n
digits n (b ∷ l) = cond (nat_le 48 b && nat_le b 57) (digits (min (10 * n + (b - 48)) 4294967295) l) None

unfoldable pub wanted : List ℕ → Option ℕ
wanted l = cond (length l == 0) None (digits 0 l)
