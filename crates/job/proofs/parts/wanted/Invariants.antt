-- `job::parts::wanted` meets its contract: what is left to read is the digits from here on, behind the number so far.
use Rattle.std.proofs.Common.{◌≡◌, drop}
use Rattle.job.specs.Part.{digits}
use Rattle.job.proofs.parts.wanted.Given as goal

abbrev pub invariant-loop-b : goal.invariant-loop-b
invariant-loop-b l = digits 0 l.text ≡ digits l.n (drop l.b-index l.text)
