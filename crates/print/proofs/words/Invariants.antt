-- `print::words` meets its contract: behind the place are the digits of the samples passed.
use Rattle.text.specs.Text.{Put}
use Rattle.print.specs.Print.{words}
use Rattle.print.proofs.words.Given as goal

abbrev pub invariant-loop-s : goal.invariant-loop-s
invariant-loop-s l = Put (words l.s-index l.samples) l.from l.initial.out l.at l.out
