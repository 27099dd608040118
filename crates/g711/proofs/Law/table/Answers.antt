-- `g711::Law::table` meets its contract: each entry of an array is the rule's, by one computed test and the lemma that both tables share.
use Rattle.laws.specs.Ints.{sameZ}
use Rattle.laws.specs.Loops.{every}
use Rattle.g711.specs.G711.{a, mu, value}
use Rattle.g711.specs.Laws.{meets, entry}
use Rattle.g711.proofs.Law.table.Goals as goal

pub returns-in-A : goal.returns-in-A
unfolding meets every sameZ a value
returns-in-A c = rw c.in-A.is (entry (value 1) _ tt)

pub returns-in-Mu : goal.returns-in-Mu
unfolding meets every sameZ mu value
returns-in-Mu c = rw c.in-Mu.is (entry (value 2) _ tt)
