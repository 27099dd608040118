-- `Counts::with_rule` meets its contract, by the five cases.
use Rattle.count.specs.Count.{with_rule}
use Rattle.count.proofs.Counts.with_rule.Goals as goal

pub returns-in-Thirds : goal.returns-in-Thirds
unfolding with_rule
returns-in-Thirds c = rw c.in-Thirds.is

pub returns-in-Whole : goal.returns-in-Whole
unfolding with_rule
returns-in-Whole c = rw c.in-Whole.is

pub returns-in-Relative : goal.returns-in-Relative
unfolding with_rule
returns-in-Relative c = rw c.in-Relative.is

pub returns-in-BadParity : goal.returns-in-BadParity
unfolding with_rule
returns-in-BadParity c = rw c.in-BadParity.is

pub returns-in-Concealed : goal.returns-in-Concealed
unfolding with_rule
returns-in-Concealed c = rw c.in-Concealed.is
