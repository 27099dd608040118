-- `g711::Law::form` meets its contract: the form of each law's number.
use Rattle.g711.specs.Fast.{form}
use Rattle.g711.proofs.Law.form.Goals as goal

pub returns-in-A : goal.returns-in-A
unfolding form
returns-in-A c = rw c.in-A.is

pub returns-in-Mu : goal.returns-in-Mu
unfolding form
returns-in-Mu c = rw c.in-Mu.is
