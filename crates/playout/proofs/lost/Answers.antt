-- The answers of `playout::lost`.
use mir.Val.{bool_byte}
use Rattle.std.specs.Prelude.{◌≡◌, refl, Bool, true, false, cond, ℕ, ◌+◌, eqb, get_or}
use Rattle.std.proofs.Common.{ap, ◌∙◌, arith}
use Rattle.playout.specs.Laws.{lost_none, lost_turn, lost_end, lost_few, one_most}
use Rattle.playout.proofs.lost.Goals as goal

pub loop-kind-init : goal.loop-kind-init
loop-kind-init c = lost_none c.args.kinds.now

-- 1 for a lost frame
one : (c : goal.After-from-n) → c.from-n.result ≡ cond (eqb (get_or c.args.kinds.now c.loop-kind.kind-index 0) 3) 1 0
one c = c.from-n.ensures ∙ of_bool (eqb (get_or c.args.kinds.now c.loop-kind.kind-index 0) 3)
  where
    of_bool : (b : Bool) → bool_byte b ≡ cond b 1 0
    of_bool true = refl
    of_bool false = refl

pub overflow_add-n : goal.overflow_add-n
overflow_add-n c =
    let l = c.loop-kind in
    omega (arith, lost_few c.args.kinds.now l.kind-index _ (omega arith) l.invariant, one_most (eqb (get_or c.args.kinds.now l.kind-index 0) 3), one c)

pub loop-kind-preserved : goal.loop-kind-preserved
loop-kind-preserved c =
    let l = c.loop-kind in
    ap (λ (k : ℕ). l.n + k) (one c) ∙ lost_turn c.args.kinds.now l.kind-index _ (omega arith) l.invariant

pub returns : goal.returns
returns c = lost_end c.args.kinds.now c.loop-kind.kind-index _ (omega arith) c.loop-kind.invariant
