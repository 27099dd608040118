-- Faults: a line that is sound (Sound.antt) but for voice frames whose samples were changed on their way, each directly behind a frame that is answered Known, and each answered Differs. No other frame is blamed, and the voice frame
-- behind each is answered Known.
use Rattle.std.specs.Prelude.{◌≡◌, Ok, Err, List, [], ◌∷◌, T, ℤ}
use Rattle.state.specs.State.{accepted_state}
use Rattle.decoder.specs.Call.{block}
use Rattle.compare_step.specs.declared.Difference.{Difference}
use Rattle.compare_step.specs.declared.Class.TheVariants.{Concealed, Settling, NotClean, Known, Differs}
use Rattle.compare_step.specs.Compare.{Compared, ok}
use Rattle.agreement.specs.Demand.{made, All}
use Rattle.recover.specs.Sound.{Item, said, class_of, memory_of, answered, compared, Common, Clear, Start, Fair, VoiceKnown, Found}

-- ---- the conditions

-- A voice frame that reached both, behind one that was answered Known (x is the answer before): the 80 samples that are heard may be any. It is asked that it is answered Differs, which can be seen: had a candidate given
-- them by chance, the others would be dropped
pub record Fault (t : List ℤ) (i : Item) (m : List ℤ) (x : Compared) : Type 0 where
  pub voice : i.kind ≡ 0
  pub behind : x ≡ ok Known
  pub difference : Difference
  pub blamed : class_of (said t i m) ≡ ok (Differs difference)

pub data Heard (t : List ℤ) (i : Item) (m b : List ℤ) (x : Compared) : Type 0 where
  clear : Clear i b → Heard t i m b x
  fault : Fault t i m x → Heard t i m b x

abbrev pub AllHeard : List ℤ → List Item → (m b : List ℤ) → Compared → Type 0
AllHeard t [] m b x = Unit {0}
AllHeard t (i ∷ l) m b x = Heard t i m b x × AllHeard t l (memory_of (said t i m)) (block (made i.far b)) (class_of (said t i m))

-- a sound line but for such faults, however many
pub record FaultyLine (t : List ℤ) (l : List Item) (m b : List ℤ) : Type 0 where
  pub start : Start t l m
  pub far_state : T (accepted_state b)
  pub common : All (Common t) l
  pub heard : AllHeard t l m b (ok Concealed)

-- ---- what is claimed of the answers

-- there are candidates behind a frame of this answer
abbrev pub Compares : Compared → Type 0
Compares (Err n) = ⊥
Compares (Ok Concealed) = ⊥
Compares (Ok (Settling n)) = ⊥
Compares (Ok (NotClean n)) = ⊥
Compares (Ok Known) = Unit {0}
Compares (Ok (Differs d)) = Unit {0}

-- each frame whose samples are the far decoder's: it isn't blamed, and behind a fault, as behind a frame that is answered Known, it is answered Known if voice
abbrev pub ClearFair : List ℤ → List Item → (m b : List ℤ) → Compared → Type 0
ClearFair t [] m b x = Unit {0}
ClearFair t (i ∷ l) m b x =
    (Clear i b → Fair (answered t i m) × (Compares x → VoiceKnown (answered t i m)))
    × ClearFair t l (memory_of (said t i m)) (block (made i.far b)) (class_of (said t i m))

-- ---- the theorem

pub record Faults : Type 0 where
  pub fair : (t : List ℤ) (l : List Item) (m b : List ℤ) → FaultyLine t l m b → ClearFair t l m b (ok Concealed)
  pub found : (t : List ℤ) (l : List Item) (m b : List ℤ) → FaultyLine t l m b → Found (compared t l m)
