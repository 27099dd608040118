-- What is counted of a comparison, frame by frame.
use Rattle.std.specs.Prelude.{Bool, true, false, ℕ, Option, None, Some}
use Rattle.count.specs.declared.Counts.{Counts}
use Rattle.count.specs.Count.{no_counts}
use Rattle.line_step.specs.Step.{one_more}
use Rattle.compare_step.specs.declared.Class.{Class}
use Rattle.compare_step.specs.declared.Class.TheVariants.{Concealed, Settling, NotClean, Known, Differs}
use Rattle.report.specs.declared.Tally.{Tally}
use Rattle.report.specs.declared.Stretch.{Stretch}
use Rattle.report.specs.declared.First.{First}

-- whether the samples of a frame were computed
unfoldable pub computed : Class → Bool
computed Concealed = false
computed (Settling n) = false
computed (NotClean n) = false
computed Known = true
computed (Differs d) = true

unfoldable pub none : Tally
none = record { counts = no_counts; settling = 0; unclean = 0; known = 0; differ = 0 }

-- with a frame of this class, which the counts have
unfoldable pub add : Tally → Counts → Class → Tally
add t counts Concealed = record { counts = counts; settling = t.settling; unclean = t.unclean; known = t.known; differ = t.differ }
add t counts (Settling n) = record { counts = counts; settling = one_more t.settling; unclean = t.unclean; known = t.known; differ = t.differ }
add t counts (NotClean n) = record { counts = counts; settling = t.settling; unclean = one_more t.unclean; known = t.known; differ = t.differ }
add t counts Known = record { counts = counts; settling = t.settling; unclean = t.unclean; known = one_more t.known; differ = t.differ }
add t counts (Differs d) = record { counts = counts; settling = t.settling; unclean = t.unclean; known = t.known; differ = one_more t.differ }

-- the stretch so far, or one that begins with frame n
unfoldable pub begun : Option Stretch → ℕ → Stretch
begun None n = record { from = n; differ = 0 }
begun (Some s) n = s

-- the stretch that frame n is in: none where its samples were not computed
unfoldable pub reached : Option Stretch → ℕ → Class → Option Stretch
reached s n Concealed = None
reached s n (Settling k) = None
reached s n (NotClean k) = None
reached s n Known = Some (begun s n)
reached s n (Differs d) = Some (record { from = (begun s n).from; differ = one_more (begun s n).differ })

-- the first frame that differs, of those before and frame n
unfoldable pub earliest : Option First → ℕ → Class → Option First
earliest (Some f) n c = Some f
earliest None n Concealed = None
earliest None n (Settling k) = None
earliest None n (NotClean k) = None
earliest None n Known = None
earliest None n (Differs d) = Some (record { frame = n; sample = d.sample; rest = d.rest })
