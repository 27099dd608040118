-- A sound line is never blamed. The comparison of crate compare_step is called once a frame, with the frame and the samples that were heard of the far decoder, and answers what the frame is.
-- Where these are the samples that a far decoder gives for the same voice frames, whatever it received before, no answer is Differs (nor Refused). So an answer Differs says that something does
-- differ: frames or tables that are not the same, samples that were changed on their way, or a far decoder that isn't the one defined here.
use Rattle.std.specs.Prelude.{ℕ, ◌<◌, ◌≡◌, Ok, Err, List, [], ◌∷◌, ◌++◌, ◌≢◌, T, ℤ, length, take}
use Rattle.tables.specs.Layout.{AcceptedTables}
use Rattle.state.specs.State.{accepted_state}
use Rattle.decoder.specs.Call.{input_check, block, output}
use Rattle.compare_step.specs.declared.Class.TheVariants.{Concealed, Settling, NotClean, Known, Differs}
use Rattle.compare_step.specs.Compare.{Compared, ok, memory_check, Answer, answer, compare, begun, begin}
use Rattle.agreement.specs.Demand.{Call, made, All}
use Rattle.agreement.specs.Run.{code}

-- ---- a line: its frames, and what the comparison answers

pub record Item : Type 0 where
  -- what the comparison is handed: a frame, the samples that were heard of it, and room for the computed samples, with what it holds
  pub kind : ℕ
  pub payload : List ℕ
  pub heard : List ℤ
  pub room : List ℤ
  -- the far decoder's call. The comparison doesn't see it
  pub far : Call

pub record Answered : Type 0 where
  pub item : Item
  pub answer : Compared

-- the comparison's call for a frame, with the tables t, on memory m; its answer, and the memory that it leaves
abbrev pub said : List ℤ → Item → List ℤ → Answer
said t i m = compare t m i.kind i.payload i.heard i.room

abbrev pub class_of : Answer → Compared
class_of (answer x m out) = x

abbrev pub memory_of : Answer → List ℤ
memory_of (answer x m out) = m

abbrev pub answered : List ℤ → Item → List ℤ → Answered
answered t i m = record { item = i; answer = class_of (said t i m) }

-- the answers to the frames l, each call on the memory that the call before left
unfoldable pub compared : List ℤ → List Item → List ℤ → List Answered
compared t [] m = []
compared t (i ∷ l) m = answered t i m ∷ compared t l (memory_of (said t i m))

-- ---- the conditions

-- The comparison's call isn't refused, but for what its memory holds. A voice frame of it is one of the far decoder's too, with the same tables. For a frame of another kind nothing is asked of the far decoder: it
-- may be handed anything, a refused call too, which leaves its state as it was. Mark a frame as lost wherever it was lost at either end
pub record Common (t : List ℤ) (i : Item) : Type 0 where
  pub handed : (input_check i.kind i.payload (length i.heard) ≡ 0) × (input_check i.kind i.payload (length i.room) ≡ 0)
  pub decoded : i.kind ≡ 0 → code i.far ≡ 0
  pub same : i.kind ≡ 0 → (i.far.kind ≡ 0) × ((i.far.payload ≡ i.payload) × (i.far.tables ≡ t))

-- the samples that are heard of a voice frame are those that the far decoder writes, its state block being b. Of another frame they may be any
abbrev pub Clear : Item → List ℤ → Type 0
Clear i b = i.kind ≡ 0 → i.heard ≡ output (made i.far b)

abbrev pub AllClear : List Item → List ℤ → Type 0
AllClear [] b = Unit {0}
AllClear (i ∷ l) b = Clear i b × AllClear l (block (made i.far b))

pub data Start (t : List ℤ) (l : List Item) (m : List ℤ) : Type 0 where
  -- the memory is as `begin` left it
  begins : (lent : List ℤ) → begin t lent ≡ begun 0 m → Start t l m
  -- or it is any that isn't refused, whatever was heard before, and the first frame isn't voice: that ends what was before
  anew : AcceptedTables t → memory_check m ≡ 0 → All (λ i. i.kind ≢ 0) (take 1 l) → Start t l m

-- the far decoder's state block is any that isn't refused: a comparison may begin at any time in its life
pub record SoundLine (t : List ℤ) (l : List Item) (m b : List ℤ) : Type 0 where
  pub start : Start t l m
  pub far_state : T (accepted_state b)
  pub common : All (Common t) l
  pub clear : AllClear l b

-- ---- what is claimed of the answers

-- those to a voice frame that blame nothing
abbrev pub Unblamed : Compared → Type 0
Unblamed (Err n) = ⊥
Unblamed (Ok Concealed) = ⊥
Unblamed (Ok (Settling n)) = Unit {0}
Unblamed (Ok (NotClean n)) = Unit {0}
Unblamed (Ok Known) = Unit {0}
Unblamed (Ok (Differs d)) = ⊥

pub record Fair (x : Answered) : Type 0 where
  pub voice : x.item.kind ≡ 0 → Unblamed x.answer
  pub concealed : x.item.kind ≢ 0 → x.answer ≡ ok Concealed

abbrev pub VoiceKnown : Answered → Type 0
VoiceKnown x = x.item.kind ≡ 0 → x.answer ≡ ok Known

-- answered Settling n, n above 5: there are no candidates, and the frame tells its excitation (by `class` and `tells` of Compare: it is the sixth or a later one, its coefficients are in bound and its samples inside their range)
pub record Told (x : Answered) : Type 0 where
  pub number : ℕ
  pub is : x.answer ≡ ok (Settling number)
  pub late : 5 < number

-- three frames in a row, of which the first two tell their excitation and the third is voice: it is answered Known, since a candidate gives all of its 80 samples
abbrev pub Found : List Answered → Type 0
Found l = (before after : List Answered) (x y z : Answered) → l ≡ before ++ (x ∷ y ∷ z ∷ after) → Told x → Told y → VoiceKnown z

pub record SoundAnswers (l : List Answered) : Type 0 where
  -- no frame is blamed
  pub fair : All Fair l
  -- nor is that so because nothing is compared
  pub found : Found l
  -- a voice frame behind one that is answered Known is too: from there on each is, up to a frame that isn't voice
  pub stays : (before after : List Answered) (x z : Answered) → l ≡ before ++ (x ∷ z ∷ after) → x.answer ≡ ok Known → VoiceKnown z

-- ---- the theorem

pub record Sound : Type 0 where
  pub sound : (t : List ℤ) (l : List Item) (m b : List ℤ) → SoundLine t l m b → SoundAnswers (compared t l m)
  -- no call, whatever it is handed, leaves a memory that is refused: so a line may start anew at every frame that isn't voice
  pub kept : (t : List ℤ) (i : Item) (m : List ℤ) → memory_check m ≡ 0 → memory_check (memory_of (said t i m)) ≡ 0
