-- `slots::slot_of` meets its contract: the parts stand one after the other.
use mathlib.Core.Path.{◌≡◌, refl}
use native.Mathlib.Omega.{arith}
use lib.ListN.{length}
use mir.Syntax.{w16}
use Rattle.block.specs.Laws.{front_none, front_more, front_one, front_all}
use Rattle.std.proofs.Common.{rules}
use Rattle.compare_step.proofs.slots.slot_of.Goals as goal

pub returns : goal.returns
returns c =
    let hp : length c.args.past.now ≡ 154 = search rules in
    let hs : length c.args.speech.now ≡ 90 = search rules in
    let f₀ = front_one w16 c.args.n (front_none _ refl) c.put_word.ensures c.ranges.n.sfits (omega arith) in
    let f₁ = front_more _ 154 f₀ c.put.ensures hp (omega arith) in
    let f₂ = front_more _ 90 f₁ c.put-2.ensures hs (omega arith) in
    front_all f₂
