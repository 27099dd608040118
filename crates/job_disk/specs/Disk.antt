-- The account of a job's files, and what holds of it between two parts.
use Rattle.std.specs.Prelude.{◌≡◌, ℕ, ◌+◌, ◌%◌, ◌^◌, ◌<◌, true}
use Rattle.job.specs.declared.Saved.{Saved}
use Rattle.job_step.specs.Step.{each}
use Rattle.job_disk.specs.declared.disk.Disk.{Disk}
use Rattle.job_disk.specs.declared.Todo.{Todo}

-- n bytes more of OUT are written
pub record Put (d : Disk) (n : ℕ) (r : Disk) : Type 0 where
  pub written : r.written ≡ (d.written + n) % 2 ^ 64
  pub synced : r.synced ≡ d.synced
  pub saved : r.saved ≡ d.saved

-- all that is written is on the disk, and the system said so
pub record Synced (d r : Disk) : Type 0 where
  pub good : r.good ≡ true
  pub written : r.written ≡ d.written
  pub synced : r.synced ≡ d.written
  pub saved : r.saved ≡ d.saved

-- what a place counts is on the disk, and nothing failed
pub record OnDisk (p : Saved) (d : Disk) : Type 0 where
  pub good : d.good ≡ true
  pub synced : d.synced ≡ p.written
  pub written : d.written ≡ p.written

-- the state at a place is saved, and OUT has what it counts
pub record Kept (p : Saved) (d : Disk) : Type 0 where
  pub written : d.written ≡ p.written
  pub saved : d.saved ≡ p.lines

-- between two parts OUT has what the place counts, and no state is due
pub record Between (r : Todo) : Type 0 where
  pub written : r.disk.written ≡ r.place.written
  pub kept : r.place.lines < r.disk.saved + each
