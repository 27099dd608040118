-- The theorems of Sound.antt and Faults.antt. Assumes nothing.
use Rattle.std.specs.Prelude.{ℕ, zero, suc, ◌≡◌, refl, Ok, Err, Bool, true, false, List, [], ◌∷◌, ◌++◌, ◌≢◌, T, eqb, ℤ, pos, length, drop, replicate}
use Rattle.std.proofs.Common.{sym, subst, ◌∙◌, true≢false, arith, length-drop}
use Rattle.std.proofs.Math.Path.{ap}
use Rattle.std.proofs.Math.Bool.{cond}
use Rattle.std.proofs.Math.Dec.{eqb-suc-zero}
use Rattle.std.proofs.lemmas.List.{length-replicate}
use Rattle.tables.specs.Layout.{table_check}
use Rattle.tables.specs.Laws.{accepted_delay}
use Rattle.bitstream.specs.declared.SpeechParams.{SpeechParams}
use Rattle.bitstream.specs.Fields.{unpack}
use Rattle.plc.specs.declared.Decision.{Decision}
use Rattle.plc.specs.declared.Decision.TheVariants.{Voice, Concealment}
use Rattle.plc.specs.Kinds.{decide}
use Rattle.state.specs.declared.Params.{Params}
use Rattle.state.specs.State.{State, read, fresh_params, predictor_in_range, accepted, accepted_state}
use Rattle.state.specs.Laws.{read_sized}
use Rattle.parameters.specs.declared.Decoded.{Decoded}
use Rattle.parameters.specs.Parameters.{voice, parameters}
use Rattle.decoder.specs.Frame.{Frame, decode}
use Rattle.decoder.specs.Call.{block, output}
use Rattle.accepted.specs.Accepted.{accepted_after_frame}
use Rattle.agreement.specs.Demand.{made, All}
use Rattle.agreement.specs.Run.{frame_of}
use Rattle.agreement.proofs.Runs.{made_frame, read_after, accepted_after}
use Rattle.compare_step.specs.declared.Difference.{Difference}
use Rattle.compare_step.specs.declared.Far.{Far}
use Rattle.compare_step.specs.declared.Class.{Class}
use Rattle.compare_step.specs.declared.Class.TheVariants.{Concealed, Settling, NotClean, Known, Differs}
use Rattle.compare_step.specs.Compare.{Compared, ok, Answer, no_far, concealed_far, Step, voice_step, step}
use Rattle.recover.specs.Frames.{Room, frame_samples, kept}
use Rattle.recover.specs.Sound.{Item, Answered, said, answered, class_of, memory_of, compared, Common, Clear, AllClear, Start, begins, anew, SoundLine, Unblamed, Fair, VoiceKnown, Told, Found, SoundAnswers, Sound}
use Rattle.recover.specs.Faults.{clear, fault, AllHeard, FaultyLine, Compares, ClearFair, Faults}
use Rattle.recover.specs.Steps.{Stage, settling, one, two, held, lost, far, Followed, Next, Led, Moved, voice_moved, blamed_moved, concealed_followed}
use Rattle.recover.specs.Memory.{Fitted, fitted_after, fitted_fresh, memory, eighty, answer_of, compare_is, Whole, whole, memory_stays, begins_with}

room_of : (b : List ℤ) → Room (read b).signal
room_of b = let h = read_sized b in record { past = h.past; tail = h.tail }

-- ---- where the comparison's memory m and the far decoder's block b stand

record Reached (g : Stage) (m b : List ℤ) : Type 0 where
  parts : Whole m
  count : ℕ
  tail : List ℤ
  words : List ℤ
  far_is : parts.far ≡ far count g tail words
  followed : Followed parts.params count g tail words parts.slots (read b)
  far_state : T (accepted_state b)

-- a frame of answer x led from stage g to stage h
record Link (g h : Stage) (x : Answered) : Type 0 where
  fair : Fair x
  next : x.item.kind ≡ 0 → Next g h x.answer

-- and so did a fault
record Broken (g h : Stage) (x : Answered) : Type 0 where
  from : g ≡ held
  to : h ≡ lost
  difference : Difference
  is : x.answer ≡ ok (Differs difference)

data Turn (g h : Stage) (x : Answered) : Type 0 where
  fairly : Link g h x → Turn g h x
  broken : Broken g h x → Turn g h x

-- ---- one frame, on any memory

-- two frames that are answered alike are of one class
inside : {c d : Class} → ok c ≡ ok d → c ≡ d
inside h = cc

module _ (t : List ℤ) (tables : table_check t ≡ 0) (i : Item) (common : Common t i) (m b : List ℤ) (far_ok : T (accepted_state b)) where
  abbrev a : Answer
  a = said t i m

  abbrev b1 : List ℤ
  b1 = block (made i.far b)

  abbrev d : Decision
  d = decide i.kind i.payload

  b1_is : i.kind ≡ 0 → read b1 ≡ (frame_of i.far (read b)).state
  b1_is k = ap read (made_frame i.far b far_ok (common.decoded k)).0 ∙ read_after i.far b far_ok

  b1_ok : T (accepted_state b1)
  b1_ok = accepted_after i.far b far_ok

  a_is : (x : Whole m) → a ≡ answer_of (parameters t d x.params) (step t d (parameters t d x.params) i.heard i.room x.far x.slots)
  a_is x =
      ap (λ (z : List ℤ). said t i z) x.is
      ∙ compare_is x.params x.far x.slots x.fitted x.tail_room x.words_room x.slots_room t i.kind i.payload i.heard i.room tables x.ok common.handed.0 common.handed.1

  record Went (g : Stage) : Type 0 where
    stage : Stage
    link : Link g stage (answered t i m)
    reached : Reached stage (memory_of a) b1

  -- ---- a voice frame

  module _ (k : i.kind ≡ 0) where
    abbrev f : SpeechParams
    f = unpack i.payload

    abbrev other : Decoded
    other = voice t f (read b).params

    abbrev samples : List ℤ
    samples = frame_samples t other.first other.second (read b).signal

    abbrev left : State
    left = record { params = other.params; signal = kept t other.first other.second (read b).signal }

    d_is : d ≡ Voice f
    unfolding decide
    d_is = ap (λ (n : ℕ). cond (eqb n 0) (Voice (unpack i.payload)) Concealment) k

    frame_is : frame_of i.far (read b) ≡ decode t (Voice f) (read b)
    unfolding frame_of decide
    frame_is = let q = common.same k in λ j. decode (q.1.1 j) (cond (eqb (q.0 j) 0) (Voice (unpack (q.1.0 j))) Concealment) (read b)

    samples_are : output (made i.far b) ≡ samples
    unfolding decode parameters
    samples_are = (made_frame i.far b far_ok (common.decoded k)).1 ∙ ap (λ (x : Frame). x.samples) frame_is

    left_is : read b1 ≡ left
    unfolding decode parameters
    left_is = b1_is k ∙ ap (λ (x : Frame). x.state) frame_is

    module _ {g : Stage} (r : Reached g m b) where
      abbrev p : Params
      p = r.parts.params

      abbrev own : Decoded
      own = voice t f p

      -- the step that the call makes
      abbrev now : List ℤ → Step
      now y = voice_step t f own y i.room (far r.count g r.tail r.words) r.parts.slots

      now_is : (y : List ℤ) → i.heard ≡ y → a ≡ answer_of own (now y)
      unfolding parameters step
      now_is y e = a_is r.parts ∙ (λ j. answer_of (parameters t (d_is j) p) (step t (d_is j) (parameters t (d_is j) p) (e j) i.room (r.far_is j) r.parts.slots))

      own_fitted : Fitted own.params
      unfolding parameters
      own_fitted = fitted_after t (Voice f) p r.parts.fitted

      own_ok : T (accepted own.params)
      unfolding parameters
      own_ok = accepted_after_frame p r.parts.ok t (Voice f)

      led_on : (h : Stage) (y : List ℤ) → i.heard ≡ y → Led own.params h left (now y) → Reached h (memory_of a) b1
      led_on h y e x =
          record {
            parts = record {
              params = own.params;
              far = far x.count h x.tail x.words;
              slots = (now y).slots;
              is = ap memory_of (now_is y e) ∙ ap (λ (z : Far). memory own.params z (now y).slots) x.far_is;
              fitted = own_fitted;
              ok = own_ok;
              tail_room = x.followed.tail_room;
              words_room = x.followed.words_room;
              slots_room = x.followed.slots_room;
            };
            count = x.count;
            tail = x.tail;
            words = x.words;
            far_is = refl;
            followed = subst (Followed own.params x.count h x.tail x.words (now y).slots) (sym left_is) x.followed;
            far_state = b1_ok;
          }

      -- the far decoder's samples are heard
      moved : Moved own.params g left (now samples)
      moved = voice_moved t f p r.count r.tail r.words r.parts.slots (read b) g i.room r.followed

      voice_went : Clear i b → Went g
      voice_went c =
          let e = ap class_of (now_is samples (c k ∙ samples_are)) in
          record {
            stage = moved.stage;
            link = record {
              fair = record { voice = λ z. subst Unblamed (sym e) moved.unblamed; concealed = λ z. absurd (z k) };
              next = λ z. subst (Next g moved.stage) (sym e) moved.next;
            };
            reached = led_on moved.stage samples (c k ∙ samples_are) moved.led;
          }

    -- others are heard, and blamed
    blamed_went : Reached held m b → (c : Difference) → class_of a ≡ ok (Differs c) → Reached lost (memory_of a) b1
    blamed_went r c h =
        led_on r lost i.heard refl
        (blamed_moved t f r.parts.params r.count r.tail r.words r.parts.slots (read b) i.heard i.room (eighty i.kind i.payload (length i.heard) common.handed.0) r.followed c
        (inside (sym (ap class_of (now_is r i.heard refl)) ∙ h)))

  -- ---- any other frame

  module _ (n : ℕ) (k : i.kind ≡ suc n) (x : Whole m) where
    abbrev hidden : Decoded
    hidden = parameters t d x.params

    none_is : d ≡ Concealment
    unfolding decide
    none_is = rw (k, eqb-suc-zero)

    abbrev concealed_step : Step
    concealed_step = record { far = far 0 settling (drop 70 i.heard) x.far.words; slots = x.slots; class = Concealed; samples = i.room }

    step_is : step t d hidden i.heard i.room x.far x.slots ≡ concealed_step
    unfolding step concealed_far
    step_is = ap (λ (z : Decision). step t z hidden i.heard i.room x.far x.slots) none_is

    concealed_is : a ≡ answer_of hidden concealed_step
    concealed_is = a_is x ∙ ap (answer_of hidden) step_is

    ten : length (drop 70 i.heard) ≡ 10
    ten = omega (arith, length-drop 70 i.heard, eighty i.kind i.payload (length i.heard) common.handed.0)

    concealed_went : (g : Stage) → Went g
    concealed_went g =
        record {
          stage = settling;
          link = record {
            fair = record { voice = λ z. absurd (omega arith); concealed = λ z. ap class_of concealed_is };
            next = λ z. absurd (omega arith);
          };
          reached = record {
            parts = record {
              params = hidden.params;
              far = far 0 settling (drop 70 i.heard) x.far.words;
              slots = x.slots;
              is = ap memory_of concealed_is;
              fitted = fitted_after t d x.params x.fitted;
              ok = accepted_after_frame x.params x.ok t d;
              tail_room = ten;
              words_room = x.words_room;
              slots_room = x.slots_room;
            };
            count = 0;
            tail = drop 70 i.heard;
            words = x.far.words;
            far_is = refl;
            followed = concealed_followed hidden.params (read b1) (drop 70 i.heard) x.far.words x.slots ten x.words_room x.slots_room (room_of b1);
            far_state = b1_ok;
          };
        }

-- a frame of either kind
went : (t : List ℤ) (e : table_check t ≡ 0) (i : Item) (c : Common t i) (m b : List ℤ) (g : Stage) (r : Reached g m b) → Clear i b → Went t e i c m b r.far_state g
went t e i c m b g r h = go i.kind refl
  where
    go : (k : ℕ) → i.kind ≡ k → Went t e i c m b r.far_state g
    go zero q = voice_went t e i c m b r.far_state q r h
    go (suc n) q = concealed_went t e i c m b r.far_state n q r.parts g

-- one that isn't voice
went_hidden : (t : List ℤ) (e : table_check t ≡ 0) (i : Item) (c : Common t i) (m b : List ℤ) (ok : T (accepted_state b)) → Whole m → i.kind ≢ 0 → Went t e i c m b ok settling
went_hidden t e i c m b ok x h = go i.kind refl
  where
    go : (k : ℕ) → i.kind ≡ k → Went t e i c m b ok settling
    go zero q = absurd (h q)
    go (suc n) q = concealed_went t e i c m b ok n q x settling

-- ---- a list of frames

abbrev Goes : Stage → List Answered → Type 0
Goes g [] = Unit {0}
Goes g (x ∷ l) = (h : Stage) × (Turn g h x × Goes h l)

-- from any frame on
later : (g : Stage) (before l : List Answered) → Goes g (before ++ l) → (h : Stage) × Goes h l
later g [] l h = (g, h)
later g (x ∷ before) l h = later h.0 before l h.1.1

-- one answer isn't two
abbrev class_number : Compared → ℕ
class_number (Err n) = 0
class_number (Ok Concealed) = 1
class_number (Ok (Settling n)) = 2
class_number (Ok (NotClean n)) = 3
class_number (Ok Known) = 4
class_number (Ok (Differs d)) = 5

apart : {A : Type 0} {x y z : Compared} → x ≡ y → x ≡ z → class_number y ≢ class_number z → A
apart p q d = absurd (d (ap class_number (sym p ∙ q)))

-- a frame answered so is a voice frame
told_voice : (x : Answered) → Fair x → Told x → x.item.kind ≡ 0
told_voice x f o = go x.item.kind refl
  where
    go : (k : ℕ) → x.item.kind ≡ k → x.item.kind ≡ 0
    go zero e = e
    go (suc k) e = apart (f.concealed (λ z. omega arith)) o.is (λ z. omega arith)

known_voice : (x : Answered) → Fair x → x.answer ≡ ok Known → x.item.kind ≡ 0
known_voice x f o = go x.item.kind refl
  where
    go : (k : ℕ) → x.item.kind ≡ k → x.item.kind ≡ 0
    go zero e = e
    go (suc k) e = apart (f.concealed (λ z. omega arith)) o (λ z. omega arith)

two_held : {A : Type 0} → ◌≡◌ {A = Stage} two held → A
two_held p = let z : ◌≡◌ {A = Bool} true false = cc in absurd (true≢false z)

-- a stage of a window that has begun
data Begun : Stage → Type 0 where
  one_begun : Begun one
  two_begun : Begun two

told_begun : (g h : Stage) (x : Answered) → Link g h x → Told x → Begun h
told_begun g h x l o = go g (l.next (told_voice x l.fair o))
  where
    go : (g : Stage) → Next g h x.answer → Begun h
    go settling n = subst Begun (sym (n.1 o.number o.is o.late)) one_begun
    go one n = subst Begun (sym (n.1 o.number o.is o.late)) two_begun
    go two n = apart n.0 o.is (λ z. omega arith)
    go held n = apart n.0 o.is (λ z. omega arith)
    go lost n = apart n.0 o.is (λ z. omega arith)

told_two : (g h : Stage) (x : Answered) → Link g h x → Told x → Begun g → h ≡ two
told_two g h x l o b = go g b (l.next (told_voice x l.fair o))
  where
    go : (g : Stage) → Begun g → Next g h x.answer → h ≡ two
    go settling c n = elim c [ ]
    go held c n = elim c [ ]
    go lost c n = elim c [ ]
    go one one_begun n = n.1 o.number o.is o.late
    go two two_begun n = apart n.0 o.is (λ z. omega arith)

two_known : (g h : Stage) (x : Answered) → Link g h x → g ≡ two → x.item.kind ≡ 0 → x.answer ≡ ok Known
two_known g h x l e k = (subst (λ (s : Stage). Next s h x.answer) e (l.next k)).0

third : (g : Stage) (x y z : Answered) (l : List Answered) → Goes g (x ∷ y ∷ z ∷ l) → Told x → Told y → VoiceKnown z
third g x y z l (h, (l1, (h1, (l2, (h2, (l3, r)))))) a b k = last h1 h2 z l3 (mid h h1 y l2 b (first g h x l1 a)) k
  where
    first : (g h : Stage) (x : Answered) → Turn g h x → Told x → Begun h
    first g h x (fairly q) o = told_begun g h x q o
    first g h x (broken q) o = apart q.is o.is (λ z. omega arith)

    mid : (g h : Stage) (x : Answered) → Turn g h x → Told x → Begun g → h ≡ two
    mid g h x (fairly q) o u = told_two g h x q o u
    mid g h x (broken q) o u = apart q.is o.is (λ z. omega arith)

    last : (g h : Stage) (x : Answered) → Turn g h x → g ≡ two → VoiceKnown x
    last g h x (fairly q) e k = two_known g h x q e k
    last g h x (broken q) e k = two_held (sym e ∙ q.from)

known_held : (g h : Stage) (x : Answered) → Link g h x → x.answer ≡ ok Known → h ≡ held
known_held g h x l o = go g (l.next (known_voice x l.fair o))
  where
    go : (g : Stage) → Next g h x.answer → h ≡ held
    go settling n = absurd (n.0 o)
    go one n = absurd (n.0 o)
    go two n = n.1
    go held n = n.1
    go lost n = n.1

-- there are candidates
abbrev Ready : Stage → Type 0
Ready settling = ⊥
Ready one = ⊥
Ready two = ⊥
Ready held = Unit {0}
Ready lost = Unit {0}

ready_known : (g h : Stage) (x : Answered) → Link g h x → Ready g → VoiceKnown x
ready_known g h x l u k = go g u (l.next k)
  where
    go : (g : Stage) → Ready g → Next g h x.answer → x.answer ≡ ok Known
    go settling u n = absurd u
    go one u n = absurd u
    go two u n = absurd u
    go held u n = n.0
    go lost u n = n.0

-- what the answer x before a frame says of the stage
record Says (x : Compared) (g : Stage) : Type 0 where
  known : x ≡ ok Known → g ≡ held
  ready : Compares x → Ready g

says_concealed : (g : Stage) → Says (ok Concealed) g
says_concealed g = record { known = λ z. apart refl z (λ z. omega arith); ready = λ z. absurd z }

says_fair : (g h : Stage) (x : Answered) → Link g h x → Says x.answer h
says_fair g h x l = record { known = λ z. known_held g h x l z; ready = go x.item.kind refl x.answer refl }
  where
    held_ready : h ≡ held → Ready h
    held_ready e = subst Ready (sym e) tt

    blameless : x.item.kind ≡ 0 → (d : Difference) → x.answer ≡ ok (Differs d) → Ready h
    blameless k d e = absurd (subst Unblamed e (l.fair.voice k))

    go : (k : ℕ) → x.item.kind ≡ k → (c : Compared) → x.answer ≡ c → Compares c → Ready h
    go k q (Err n) e u = absurd u
    go k q (Ok Concealed) e u = absurd u
    go k q (Ok (Settling n)) e u = absurd u
    go k q (Ok (NotClean n)) e u = absurd u
    go k q (Ok Known) e u = held_ready (known_held g h x l e)
    go zero q (Ok (Differs d)) e u = blameless q d e
    go (suc k) q (Ok (Differs d)) e u = apart (l.fair.concealed (λ z. omega arith)) e (λ z. omega arith)

says_broken : (g h : Stage) (x : Answered) → Broken g h x → Says x.answer h
says_broken g h x q = record { known = λ z. apart q.is z (λ z. omega arith); ready = λ z. subst Ready (sym q.to) tt }

-- ---- the frames of a line

record Line (t : List ℤ) (l : List Item) (m b : List ℤ) (g : Stage) (x : Compared) : Type 0 where
  goes : Goes g (compared t l m)
  fair : ClearFair t l m b x

-- one frame, then the others
module _ (t : List ℤ) (i : Item) (l : List Item) (m b : List ℤ) (g h : Stage) (x : Compared) where
  line_on : Turn g h (answered t i m) → (Clear i b → Fair (answered t i m) × (Compares x → VoiceKnown (answered t i m)))
      → Line t l (memory_of (said t i m)) (block (made i.far b)) h (class_of (said t i m)) → Line t (i ∷ l) m b g x
  unfolding compared
  line_on u c r = record { goes = (h, (u, r.goes)); fair = (c, r.fair) }

line : (t : List ℤ) → table_check t ≡ 0 → (l : List Item) → All (Common t) l → (m b : List ℤ) (g : Stage) (x : Compared) → Says x g → AllHeard t l m b x → Reached g m b → Line t l m b g x
unfolding compared
line t e [] c m b g x u h r = record { goes = tt; fair = tt }
line t e (i ∷ l) c m b g x u (clear q, h) r =
    let w = went t e i c.0 m b g r q in
    line_on t i l m b g w.stage x (fairly w.link) (λ z. (w.link.fair, λ z. ready_known g w.stage (answered t i m) w.link (u.ready z)))
    (line t e l c.1 (memory_of (said t i m)) (block (made i.far b)) w.stage (class_of (said t i m)) (says_fair g w.stage (answered t i m) w.link) h w.reached)
line t e (i ∷ l) c m b g x u (fault q, h) r =
    let s : g ≡ held = u.known q.behind in
    let k : Broken g lost (answered t i m) = record { from = s; to = refl; difference = q.difference; is = q.blamed } in
    line_on t i l m b g lost x (broken k)
    (λ z. let w = went t e i c.0 m b g r z in (w.link.fair, λ z. ready_known g w.stage (answered t i m) w.link (u.ready z)))
    (line t e l c.1 (memory_of (said t i m)) (block (made i.far b)) lost (class_of (said t i m)) (says_broken g lost (answered t i m) k) h
    (blamed_went t e i c.0 m b r.far_state q.voice (subst (λ (y : Stage). Reached y m b) s r) q.difference q.blamed))

-- ---- how a line starts

fresh_ok : (t : List ℤ) → table_check t ≡ 0 → T (accepted (fresh_params t))
unfolding fresh_params accepted predictor_in_range
fresh_ok t h = rw (accepted_delay t h) tt

begun_reached : (t m b : List ℤ) → table_check t ≡ 0 → m ≡ memory (fresh_params t) no_far (replicate 1960 (pos 0)) → T (accepted_state b) → Reached settling m b
unfolding no_far
begun_reached t m b e q ok =
    record {
      parts = record {
        params = fresh_params t;
        far = far 0 settling (replicate 10 (pos 0)) (replicate 160 (pos 0));
        slots = replicate 1960 (pos 0);
        is = q;
        fitted = fitted_fresh t;
        ok = fresh_ok t e;
        tail_room = length-replicate 10 (pos 0);
        words_room = length-replicate 160 (pos 0);
        slots_room = length-replicate 1960 (pos 0);
      };
      count = 0;
      tail = replicate 10 (pos 0);
      words = replicate 160 (pos 0);
      far_is = refl;
      followed = concealed_followed (fresh_params t) (read b) (replicate 10 (pos 0)) (replicate 160 (pos 0)) (replicate 1960 (pos 0)) (length-replicate 10 (pos 0)) (length-replicate 160 (pos 0))
          (length-replicate 1960 (pos 0)) (room_of b);
      far_state = ok;
    }

whole_line : (t : List ℤ) (l : List Item) (m b : List ℤ) → FaultyLine t l m b → Line t l m b settling (ok Concealed)
unfolding compared
whole_line t l m b o = go l o.start o.common o.heard
  where
    go : (l : List Item) → Start t l m → All (Common t) l → AllHeard t l m b (ok Concealed) → Line t l m b settling (ok Concealed)
    go l (begins lent q) c h =
        let x = begins_with t lent m q in line t x.0 l c m b settling (ok Concealed) (says_concealed settling) h (begun_reached t m b x.0 x.1 o.far_state)
    go [] (anew e q k) c h = record { goes = tt; fair = tt }
    go (i ∷ l) (anew e q k) c h =
        let w = went_hidden t e i c.0 m b o.far_state (whole m q) k.0 in
        line_on t i l m b settling w.stage (ok Concealed) (fairly w.link) (λ z. (w.link.fair, λ z. absurd z))
        (line t e l c.1 (memory_of (said t i m)) (block (made i.far b)) w.stage (class_of (said t i m)) (says_fair settling w.stage (answered t i m) w.link) h.1 w.reached)

found : (l : List Answered) (g : Stage) → Goes g l → Found l
found l g h before after x y z e o u k = let r = later g before (x ∷ y ∷ z ∷ after) (subst (Goes g) e h) in third r.0 x y z after r.1 o u k

-- ---- a line with no fault

all_heard : (t : List ℤ) (l : List Item) (m b : List ℤ) (x : Compared) → AllClear l b → AllHeard t l m b x
all_heard t [] m b x h = tt
all_heard t (i ∷ l) m b x h = (clear h.0, all_heard t l (memory_of (said t i m)) (block (made i.far b)) (class_of (said t i m)) h.1)

all_fair : (t : List ℤ) (l : List Item) (m b : List ℤ) (x : Compared) → AllClear l b → ClearFair t l m b x → All Fair (compared t l m)
unfolding compared
all_fair t [] m b x h c = tt
all_fair t (i ∷ l) m b x h c = ((c.0 h.0).0, all_fair t l (memory_of (said t i m)) (block (made i.far b)) (class_of (said t i m)) h.1 c.1)

some_fair : (before after : List Answered) (x z : Answered) → All Fair (before ++ (x ∷ z ∷ after)) → Fair z
some_fair [] after x z h = h.1.0
some_fair (y ∷ before) after x z h = some_fair before after x z h.1

second : (g : Stage) (x z : Answered) (l : List Answered) → Goes g (x ∷ z ∷ l) → Fair z → x.answer ≡ ok Known → VoiceKnown z
second g x z l (h, (l1, (h1, (l2, r)))) f o k = next (first l1) l2
  where
    first : Turn g h x → h ≡ held
    first (fairly q) = known_held g h x q o
    first (broken q) = apart q.is o (λ z. omega arith)

    next : h ≡ held → Turn h h1 z → z.answer ≡ ok Known
    next e (fairly q) = ready_known h h1 z q (subst Ready (sym e) tt) k
    next e (broken q) = absurd (subst Unblamed q.is (f.voice k))

sound_answers : (t : List ℤ) (l : List Item) (m b : List ℤ) → SoundLine t l m b → SoundAnswers (compared t l m)
sound_answers t l m b o =
    let r = whole_line t l m b (record { start = o.start; far_state = o.far_state; common = o.common; heard = all_heard t l m b (ok Concealed) o.clear }) in
    let f = all_fair t l m b (ok Concealed) o.clear r.fair in
    record {
      fair = f;
      found = found (compared t l m) settling r.goes;
      stays = λ before after x z e q k.
          let n = later settling before (x ∷ z ∷ after) (subst (Goes settling) e r.goes) in
          second n.0 x z after n.1 (some_fair before after x z (subst (All Fair) e f)) q k;
    }

-- ---- the theorems

pub sound : Sound
sound = record { sound = sound_answers; kept = λ t i m h. memory_stays t m i.kind i.payload i.heard i.room h }

pub faults : Faults
faults = record { fair = λ t l m b o. (whole_line t l m b o).fair; found = λ t l m b o. found (compared t l m) settling (whole_line t l m b o).goes }
