-- `Counts::of_numbers` meets its contract: each number in its place.
use Rattle.count.specs.Count.{of_numbers}
use Rattle.count.proofs.Counts.of_numbers.Goals as goal

pub returns : goal.returns
unfolding of_numbers
returns c =
    rw (c.narrow.ensures, c.narrow-2.ensures, c.narrow-3.ensures, c.narrow-4.ensures, c.narrow-5.ensures, c.narrow-6.ensures, c.narrow-7.ensures)
