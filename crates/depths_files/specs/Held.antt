-- The bytes of a text that are at hand are inside of its buffer, and there are no more arrivals than the lists have room for.
use Rattle.std.specs.Prelude.{ℕ, ◌≤◌}
use Rattle.source.specs.Source.{Inside}
use Rattle.depths_files.specs.declared.reading.Place.{Place}

pub record Held (p : Place) (input : ℕ) : Type 0 where
  pub source : Inside p.source input
  pub arrivals : p.arrivals ≤ 360000
