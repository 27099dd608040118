-- `compare_turn::call_at` meets its contract: each test picks its case of the definition.
use mathlib.Core.Path.{◌≡◌, ◌∙◌}
use native.Mathlib.Nat.{zero-add}
use native.Mathlib.Omega.{arith}
use lib.ListN.{length}
use borrow.Author.Tests.{eq-eqb, ne_eqb, lt-ltb, le-ltb}
use Rattle.call.specs.Chunk.{to_feed}
use Rattle.call.specs.Laws.{found}
use Rattle.compare_turn.specs.Turn.{call_at}
use Rattle.compare_turn.proofs.call_at.Goals as goal

pub returns-then-n-call : goal.returns-then-n-call
unfolding call_at
returns-then-n-call c =
    let l = c.args.call.now in
    let n = c.find-n.result in
    let e : n ≡ to_feed l = found l 0 c.find-n.ensures.place ∙ zero-add (to_feed l) in
    rw (← e, lt-ltb n (length l) c.if-n-call.true)

pub returns-then-n-gt-LONGEST : goal.returns-then-n-gt-LONGEST
unfolding call_at
returns-then-n-gt-LONGEST c =
    let l = c.args.call.now in
    let n = c.find-n.result in
    let e : n ≡ to_feed l = found l 0 c.find-n.ensures.place ∙ zero-add (to_feed l) in
    rw (← e, le-ltb n (length l) (omega (arith, c.if-n-call.false)), lt-ltb 36 n c.if-n-gt-LONGEST.true)

pub returns-then-not-ended : goal.returns-then-not-ended
unfolding call_at
returns-then-not-ended c =
    let l = c.args.call.now in
    let n = c.find-n.result in
    let e : n ≡ to_feed l = found l 0 c.find-n.ensures.place ∙ zero-add (to_feed l) in
    rw (← e, le-ltb n (length l) (omega (arith, c.if-n-call.false)), le-ltb 36 n (omega (arith, c.if-n-gt-LONGEST.false)), c.if-not-ended.true)

pub returns-then-n-eq0 : goal.returns-then-n-eq0
unfolding call_at
returns-then-n-eq0 c =
    let l = c.args.call.now in
    let n = c.find-n.result in
    let e : n ≡ to_feed l = found l 0 c.find-n.ensures.place ∙ zero-add (to_feed l) in
    rw (← e, le-ltb n (length l) (omega (arith, c.if-n-call.false)), le-ltb 36 n (omega (arith, c.if-n-gt-LONGEST.false)), c.if-not-ended.false, eq-eqb n 0 c.if-n-eq0.true)

pub returns : goal.returns
unfolding call_at
returns c =
    let l = c.args.call.now in
    let n = c.find-n.result in
    let e : n ≡ to_feed l = found l 0 c.find-n.ensures.place ∙ zero-add (to_feed l) in
    rw (← e, le-ltb n (length l) (omega (arith, c.if-n-call.false)), le-ltb 36 n (omega (arith, c.if-n-gt-LONGEST.false)), c.if-not-ended.false, ne_eqb n 0 c.if-n-eq0.false)
