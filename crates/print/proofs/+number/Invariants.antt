-- `print::number` meets its contract: the number falls at the call, which writes all digits but the last.
use Rattle.print.proofs.+number.Given as goal

abbrev pub decreases-number : goal.decreases-number
decreases-number l = l.n
