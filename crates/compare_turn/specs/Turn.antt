-- What a turn of a comparison takes of two files and prints, and what follows it.
use Rattle.std.specs.Prelude.{Bool, cond, not, ◌&&◌, List, ℕ, ◌≤◌, eqb, ltb, length, None}
use Rattle.line.specs.Line.{longest}
use Rattle.call.specs.Chunk.{to_feed}
use Rattle.far.specs.declared.Form.{Form}
use Rattle.far.specs.Far.{taken}
use Rattle.report.specs.Report.{none}
use Rattle.compare_turn.specs.declared.AtHand.{AtHand}
use Rattle.compare_turn.specs.declared.AtHand.TheVariants.{Wait, Ready, Bad, End}
use Rattle.compare_turn.specs.declared.Follows.{Follows}
use Rattle.compare_turn.specs.declared.Follows.TheVariants.{Go, Read, Refuse, FarEnds, CallEnds, Done}
use Rattle.compare_turn.specs.declared.Standing.{Standing}
use Rattle.compare_turn.specs.declared.Taken.{Taken}

-- before the first frame
unfoldable pub start : Standing
start = record { code = 0; tally = none; stretch = None; first = None }

-- no more is taken than the call and the far file have at hand, and no more is printed than there is room for
pub record Within (call far : List ℕ) (out pcm : ℕ) (r : Taken) : Type 0 where
  pub line : r.line ≤ length call
  pub frame : r.frame ≤ length far
  pub written : r.written ≤ out
  pub printed : r.printed ≤ pcm

-- what a number says is at hand; another number says that it is a line or frame
abbrev pub at_hand : ℕ → AtHand
at_hand n = cond (eqb n 0) Wait (cond (eqb n 2) Bad (cond (eqb n 3) End Ready))

-- what a call has at hand, whose file has ended or not: a whole line, bytes that are no line, whatever follows, too few to tell, nothing more
unfoldable pub call_at : List ℕ → Bool → AtHand
call_at l ended = let n = to_feed l in cond (ltb n (length l)) Ready (cond (ltb longest n) Bad (cond (not ended) Wait (cond (eqb n 0) End Bad)))

-- what a far file has at hand: a frame, too few bytes to tell, no further frame; a printed one ends before a line of another form
unfoldable pub far_at : Form → List ℕ → Bool → AtHand
far_at form l ended = cond (eqb (taken form l) 0) (cond (ltb (length l) 327 && not ended) Wait End) Ready

-- what follows where there is a far frame: a read, a further turn, a line is refused, the call has ended
unfoldable pub with_far : AtHand → Follows
with_far Wait = Read
with_far Ready = Go
with_far Bad = Refuse
with_far End = CallEnds

-- and where the far file has ended: it has before the call, or both have
unfoldable pub without_far : AtHand → Follows
without_far Wait = Read
without_far Ready = FarEnds
without_far Bad = FarEnds
without_far End = Done

-- what follows, by what both have at hand
unfoldable pub next : AtHand → AtHand → Follows
next call Wait = Read
next call Ready = with_far call
next call Bad = with_far call
next call End = without_far call
