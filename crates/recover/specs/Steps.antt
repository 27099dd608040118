-- One frame of a comparison on a sound line, on the comparison's parts: where it stands before the frame tells where it stands behind it, and what it answers. Assumes nothing.
use Rattle.std.specs.Prelude.{ℕ, suc, ◌+◌, ◌≤◌, ◌<◌, ◌≡◌, Bool, ◌&&◌, List, ◌++◌, map, ◌≢◌, T, ltb, ℤ, pos, negsuc, length}
use Rattle.std.proofs.Math.Path.{refl}
use Rattle.std.proofs.Common.{sym, ap, subst, ◌∙◌, true≢false, add-one, arith, ltb-true, ltb-false, length-append, length-drop, drop_at}
use Rattle.std.proofs.Math.Bool.{true, false, cond, not, and-eq-true_iff}
use Rattle.std.proofs.Math.ListN.{drop}
use Rattle.std.proofs.lemmas.List.{length-map}
use Rattle.std.specs.Int.Signed.{lt_z}
use Rattle.bitstream.specs.declared.SpeechParams.{SpeechParams}
use Rattle.pitch.specs.Pitch.{parity_ok, nat}
use Rattle.inverse.specs.Inverse.{inside, bounded, frame_words, word}
use Rattle.inverse.specs.Window.{LeftByOne, LeftByTwo, length_frame_words}
use Rattle.state.specs.declared.Params.{Params}
use Rattle.state.specs.State.{Signal, State}
use Rattle.parameters.specs.declared.Subframe.{Subframe}
use Rattle.parameters.specs.declared.Decoded.{Decoded}
use Rattle.parameters.specs.Parameters.{voice}
use Rattle.agreement.proofs.Agree as agree
use Rattle.agreement.proofs.Agree.{Agree, at_start, one_more}
use Rattle.agreement.proofs.Gap.{Same, settled, same_agree}
use Rattle.compare_step.specs.declared.Difference.{Difference}
use Rattle.compare_step.specs.declared.Far.{Far}
use Rattle.compare_step.specs.declared.Class.TheVariants.{Settling, NotClean, Known, Differs}
use Rattle.compare_step.specs.Slots.{candidates, all_tried, only_fitting, fits, best, computed}
use Rattle.compare_step.specs.Compare.{Compared, ok, next_count, tells, next_clean, taken, known, slots_tried, found, slots_left, first_difference, look, breaks, next_status, voice_far, class, Step, voice_step}
use Rattle.recover.specs.Frames.{Room, Words, frame_samples, kept, kept_room, kept_tail, kept_words, Clean, told, frame_fits, left_by_one, left_by_two}
use Rattle.recover.specs.Sound.{Unblamed}
use Rattle.recover.specs.States.{voice_first, voice_second, voice_left, voice_heads}
use Rattle.recover.specs.SlotLaws.{Right, Fitting, right_taken, right_tried, right_on, fitting_found, fitting_stays, length_all_tried, length_candidates, length_only_fitting}

-- ---- where a comparison stands

pub data Stage : Type 0 where
  -- the last frame didn't tell its excitation; it did; the last two did; the last frame was a candidate's; it was none's, though the one before was
  settling : Stage
  one : Stage
  two : Stage
  held : Stage
  lost : Stage

abbrev pub clean_of : Stage → ℤ
clean_of settling = pos 0
clean_of one = pos 1
clean_of two = pos 2
clean_of held = pos 0
clean_of lost = negsuc 0

abbrev pub status_of : Stage → ℤ
status_of settling = pos 0
status_of one = pos 0
status_of two = pos 0
status_of held = pos 1
status_of lost = pos 2

-- what is kept, behind n common frames: the far decoder's last ten samples e, and the window w
abbrev pub far : ℕ → Stage → (e w : List ℤ) → Far
far n g e w = record { count = pos n; clean = clean_of g; status = status_of g; tail = e; words = w }

-- what it says of the far decoder's signal x
abbrev pub Holds : ℕ → Stage → (w s : List ℤ) → Signal → Type 0
Holds n settling w s x = Unit {0}
Holds n one w s x = (6 ≤ n) × LeftByOne (drop 80 w) x.past
Holds n two w s x = (6 ≤ n) × LeftByTwo w x.past
Holds n held w s x = (6 ≤ n) × Right s x
Holds n lost w s x = (6 ≤ n) × Right s x

-- the ten samples that are kept are the far decoder's
abbrev pub Heard : Stage → Type 0
Heard settling = Unit {0}
Heard one = Unit {0}
Heard two = Unit {0}
Heard held = Unit {0}
Heard lost = ⊥

-- a comparison with own parameters p that stands so, and the far decoder's state b
pub record Followed (p : Params) (n : ℕ) (g : Stage) (e w s : List ℤ) (b : State) : Type 0 where
  pub agree : Agree n p b.params
  pub tail : Heard g → 1 ≤ n → e ≡ b.signal.tail
  pub words : 1 ≤ n → Words b.signal
  pub tail_room : length e ≡ 10
  pub words_room : length w ≡ 160
  pub slots_room : length s ≡ 1960
  pub room : Room b.signal
  pub holds : Holds n g w s b.signal

-- ---- what a frame is, and where it leads

-- a frame of answer x leads from stage g to stage h
abbrev pub Next : Stage → Stage → Compared → Type 0
Next settling h x = (x ≢ ok Known) × ((m : ℕ) → x ≡ ok (Settling m) → 5 < m → h ≡ one)
Next one h x = (x ≢ ok Known) × ((m : ℕ) → x ≡ ok (Settling m) → 5 < m → h ≡ two)
Next two h x = (x ≡ ok Known) × (h ≡ held)
Next held h x = (x ≡ ok Known) × (h ≡ held)
Next lost h x = (x ≡ ok Known) × (h ≡ held)

-- the step r leaves a comparison in stage g
pub record Led (p : Params) (g : Stage) (b : State) (r : Step) : Type 0 where
  pub count : ℕ
  pub tail : List ℤ
  pub words : List ℤ
  pub far_is : r.far ≡ far count g tail words
  pub followed : Followed p count g tail words r.slots b

pub record Moved (p : Params) (g : Stage) (b : State) (r : Step) : Type 0 where
  pub stage : Stage
  pub led : Led p stage b r
  pub unblamed : Unblamed (ok r.class)
  pub next : Next g stage (ok r.class)

-- ---- a voice frame

module _ (t : List ℤ) (f : SpeechParams) (p : Params) (n : ℕ) (e w s : List ℤ) (b : State) where
  abbrev parity : Bool
  parity = parity_ok f.p1 f.p0

  -- the own parameters of the frame, and the far ones
  abbrev own : Decoded
  own = voice t f p

  abbrev other : Decoded
  other = voice t f b.params

  -- the far samples, and what the far decoder keeps
  abbrev y : List ℤ
  y = frame_samples t other.first other.second b.signal

  abbrev pub left : State
  left = record { params = other.params; signal = kept t other.first other.second b.signal }

  -- ---- the count

  record Counted : Type 0 where
    number : ℕ
    is : next_count (pos n) parity ≡ pos number
    agree : Agree number own.params other.params
    late : 6 ≤ number → 5 ≤ n
    on : 6 ≤ n → 6 ≤ number

  picked : (x q z : Bool) → ltb n 1 ≡ x → parity ≡ q → ltb n 32767 ≡ z → next_count (pos n) parity ≡ cond (x && not q) (pos 0) (cond z (pos (n + 1)) (pos n))
  unfolding next_count
  picked x q z e1 e2 e3 = λ i. cond (e1 i && not (e2 i)) (pos 0) (cond (e3 i) (pos (n + 1)) (pos n))

  module _ (a : Agree n p b.params) where
    one_on : (n ≡ 0 → T parity) → Agree (suc n) own.params other.params
    unfolding agree.v agree.w
    one_on first = one_more t f a first

    counted_on : (q : Bool) → (n ≡ 0 → T parity) → next_count (pos n) parity ≡ cond q (pos (n + 1)) (pos n) → ltb n 32767 ≡ q → Counted
    counted_on true first i l = record { number = suc n; is = i ∙ ap pos (add-one n); agree = one_on first; late = λ h. omega arith; on = λ h. omega arith }
    counted_on false first i l =
        let h = ltb-false n 32767 l in
        record {
          number = n;
          is = i;
          agree = same_agree n own.params other.params (voice_left t f p b.params (settled n p b.params (omega arith) a));
          late = λ h. omega arith;
          on = λ h. h;
        }

    counted : Counted
    counted = go (ltb n 1) refl parity refl
      where
        go : (x : Bool) → ltb n 1 ≡ x → (q : Bool) → parity ≡ q → Counted
        go true e1 false e2 =
            let h = ltb-true n 1 e1 in
            record {
              number = 0;
              is = picked true false (ltb n 32767) e1 e2 refl;
              agree = at_start own.params other.params;
              late = λ l. absurd (omega arith);
              on = λ l. absurd (omega arith);
            }
        go true e1 true e2 = counted_on (ltb n 32767) (λ z. rw e2 tt) (picked true true (ltb n 32767) e1 e2 refl) refl
        go false e1 q e2 =
            let h = ltb-false n 1 e1 in
            counted_on (ltb n 32767) (λ z. absurd (omega arith)) (picked false q (ltb n 32767) e1 e2 refl) refl

  -- ---- what the frame leaves, whatever it tells

  module _ {g : Stage} (k : Followed p n g e w s b) where
    abbrev c : Counted
    c = counted k.agree

    followed_by : (h : Stage) (v r : List ℤ) → length v ≡ 160 → length r ≡ 1960 → Holds c.number h v r left.signal → Followed own.params c.number h (drop 70 y) v r left
    followed_by h v r lv lr x =
        let q = kept_tail t other.first other.second b.signal k.room in
        let m = kept_room t other.first other.second b.signal k.room in
        record {
          agree = c.agree;
          tail = λ u l. sym q;
          words = λ l. kept_words t other.first other.second b.signal k.room;
          tail_room = ap length (sym q) ∙ m.tail;
          words_room = lv;
          slots_room = lr;
          room = m;
          holds = x;
        }

    -- from the sixth frame on both have the same parameters but for the seed
    module _ (late : 5 ≤ n) where
      same : Same p b.params
      same = settled n p b.params late k.agree

      firsts : own.first ≡ other.first
      firsts = voice_first t f p b.params same

      seconds : own.second ≡ other.second
      seconds = voice_second t f p b.params same

    -- ---- the window

    -- the words that the frame is taken to tell, and the window with them
    abbrev fresh_words : List ℤ
    fresh_words = map word (frame_words own.first.a own.second.a (e ++ y))

    abbrev window : List ℤ
    window = drop 80 w ++ fresh_words

    long_words : length fresh_words ≡ 80
    long_words = length-map (frame_words own.first.a own.second.a (e ++ y)) word ∙ length_frame_words own.first.a own.second.a (e ++ y)

    old_words : length (drop 80 w) ≡ 80
    old_words = simp (length-drop, k.words_room)

    long_window : length window ≡ 160
    long_window = simp (length-append, long_words, old_words)

    -- the frame tells its excitation
    module _ (heard : Heard g) (h : tells (pos c.number) own y ≡ true) where
      parts : (lt_z (pos 5) (pos c.number) ≡ true) × ((bounded own.first.a ≡ true) × ((bounded own.second.a ≡ true) × (inside y 80 ≡ true)))
      unfolding tells
      parts =
          let a1 = (and-eq-true_iff (lt_z (pos 5) (pos c.number)) (bounded own.first.a && (bounded own.second.a && inside y 80))).0 h in
          let a2 = (and-eq-true_iff (bounded own.first.a) (bounded own.second.a && inside y 80)).0 a1.1 in
          (a1.0, (a2.0, (and-eq-true_iff (bounded own.second.a) (inside y 80)).0 a2.1))

      sixth : 6 ≤ c.number
      sixth = ltb-true 5 c.number parts.0

      fifth : 5 ≤ n
      fifth = c.late sixth

      clean : Clean t other.first other.second b.signal
      clean =
          let heads = voice_heads t f b.params in
          record {
            room = k.room;
            words = k.words (omega (arith, fifth));
            head_1 = heads.0;
            head_2 = heads.1;
            bound_1 = subst (λ (v : Subframe). bounded v.a ≡ true) (firsts fifth) parts.1.0;
            bound_2 = subst (λ (v : Subframe). bounded v.a ≡ true) (seconds fifth) parts.1.1.0;
            inside = parts.1.1.1;
          }

      told_is : fresh_words ≡ told t other.first other.second b.signal clean
      told_is =
          let q1 = firsts fifth in
          let q2 = seconds fifth in
          let q3 = k.tail heard (omega (arith, fifth)) in
          (λ i. map word (frame_words (q1 i).a (q2 i).a (q3 i ++ y))) ∙ frame_fits t other.first other.second b.signal clean

      one_told : LeftByOne (drop 80 window) left.signal.past
      one_told =
          subst (λ (v : List ℤ). LeftByOne v left.signal.past) (sym (drop_at (drop 80 w) fresh_words 80 old_words ∙ told_is))
          (left_by_one t other.first other.second b.signal clean)

      two_told : LeftByOne (drop 80 w) b.signal.past → LeftByTwo window left.signal.past
      two_told o =
          subst (λ (v : List ℤ). LeftByTwo (drop 80 w ++ v) left.signal.past) (sym told_is)
          (left_by_two t other.first other.second b.signal clean (drop 80 w) old_words o)

    -- ---- candidates

    -- a slot with the far decoder's signal gives the frame
    module _ (r : List ℤ) (late : 6 ≤ n) (eight : length r ≡ 1960) (x : Right r b.signal) where
      far_y : y ≡ frame_samples t own.first own.second b.signal
      far_y = let q1 = firsts (omega arith) in let q2 = seconds (omega arith) in λ i. frame_samples t (sym q1 i) (sym q2 i) b.signal

      fitting : Fitting (all_tried t own y r) left.signal
      fitting =
          let q1 = firsts (omega arith) in
          let q2 = seconds (omega arith) in
          subst (λ (z : Subframe × Subframe). Fitting (all_tried t own y r) (kept t z.0 z.1 b.signal)) (λ i. (q1 i, q2 i)) (right_tried t own y r b.signal eight x far_y)

      eight_tried : length (all_tried t own y r) ≡ 1960
      eight_tried = length_all_tried t own y r ∙ eight

      right_left : Right (only_fitting (all_tried t own y r)) left.signal
      right_left = fitting_stays (all_tried t own y r) left.signal eight_tried fitting

      found_now : fits (all_tried t own y r) (best (all_tried t own y r)) ≡ true
      found_now = fitting_found (all_tried t own y r) left.signal fitting

      eight_left : length (only_fitting (all_tried t own y r)) ≡ 1960
      eight_left = length_only_fitting (all_tried t own y r) ∙ eight_tried

      followed_held : Followed own.params c.number held (drop 70 y) w (only_fitting (all_tried t own y r)) left
      followed_held = followed_by held w (only_fitting (all_tried t own y r)) k.words_room eight_left (c.on late, right_left)

  -- ---- the step

  -- frame number m, which tells its excitation or not
  step_at : ℤ → Bool → Stage → List ℤ → Step
  step_at m q g out =
      let h = far n g e w in
      let r = slots_tried t own y h s in
      let x = look y h r in
      record { far = voice_far m own y q h x; slots = slots_left h r; class = class m q x; samples = cond (known h) (computed r (best r)) out }

  step_is : (g : Stage) (out : List ℤ) → voice_step t f own y out (far n g e w) s ≡ step_at (next_count (pos n) parity) (tells (next_count (pos n) parity) own y) g out
  unfolding voice_step step_at
  step_is g out = refl

  -- with no candidates
  abbrev plain_step : Stage → ℕ → Bool → List ℤ → Step
  plain_step g m q out =
      record {
        far = record { count = pos m; clean = next_clean (clean_of g) q; status = pos 0; tail = drop 70 y; words = drop 80 w ++ map word (frame_words own.first.a own.second.a (e ++ y)) };
        slots = s;
        class = cond (ltb 5 m && not q) (NotClean m) (Settling m);
        samples = out;
      }

  plain_settling : (m : ℕ) (q : Bool) (out : List ℤ) → step_at (pos m) q settling out ≡ plain_step settling m q out
  unfolding step_at slots_tried look found known taken slots_left voice_far breaks next_status class nat
  plain_settling m q out = refl

  plain_one : (m : ℕ) (q : Bool) (out : List ℤ) → step_at (pos m) q one out ≡ plain_step one m q out
  unfolding step_at slots_tried look found known taken slots_left voice_far breaks next_status class nat
  plain_one m q out = refl

  -- with candidates r of which one gives the frame
  abbrev known_step : ℕ → List ℤ → Step
  known_step m r =
      record { far = far m held (drop 70 y) w; slots = only_fitting (all_tried t own y r); class = Known; samples = computed (all_tried t own y r) (best (all_tried t own y r)) }

  known_two : (m : ℕ) (q : Bool) (out : List ℤ) → let r = candidates w e s in fits (all_tried t own y r) (best (all_tried t own y r)) ≡ true → step_at (pos m) q two out ≡ known_step m r
  unfolding step_at slots_tried look found known taken slots_left voice_far breaks next_status class
  known_two m q out h = rw h

  known_held : (m : ℕ) (q : Bool) (out : List ℤ) → fits (all_tried t own y s) (best (all_tried t own y s)) ≡ true → step_at (pos m) q held out ≡ known_step m s
  unfolding step_at slots_tried look found known taken slots_left voice_far breaks next_status class
  known_held m q out h = rw h

  known_lost : (m : ℕ) (q : Bool) (out : List ℤ) → fits (all_tried t own y s) (best (all_tried t own y s)) ≡ true → step_at (pos m) q lost out ≡ known_step m s
  unfolding step_at slots_tried look found known taken slots_left voice_far breaks next_status class
  known_lost m q out h = rw h

  -- ---- each stage

  no_blame : (x : Bool) (m : ℕ) → Unblamed (ok (cond x (NotClean m) (Settling m)))
  no_blame true m = tt
  no_blame false m = tt

  unknown : (x : Bool) (m : ℕ) → ok (cond x (NotClean m) (Settling m)) ≢ ok Known
  unknown true m h = let z : ◌≡◌ {A = Bool} true false = cc in absurd (true≢false z)
  unknown false m h = let z : ◌≡◌ {A = Bool} true false = cc in absurd (true≢false z)

  -- a frame that doesn't tell its excitation is answered Settling only before the sixth
  early : (m j : ℕ) → ok (cond (ltb 5 m && not false) (NotClean m) (Settling m)) ≡ ok (Settling j) → 5 < j → ⊥
  early m j = go (ltb 5 m) refl
    where
      go : (x : Bool) → ltb 5 m ≡ x → ok (cond (x && not false) (NotClean m) (Settling m)) ≡ ok (Settling j) → 5 < j → ⊥
      go true q h l = let z : ◌≡◌ {A = Bool} true false = cc in absurd (true≢false z)
      go false q h l = let i : m ≡ j = cc in omega (arith, ltb-false 5 m q)

  settling_moved : (k : Followed p n settling e w s b) (out : List ℤ) (q : Bool) → tells (pos (counted k.agree).number) own y ≡ q
      → Moved own.params settling left (plain_step settling (counted k.agree).number q out)
  unfolding next_clean
  settling_moved k out true h =
      record {
        stage = one;
        led = record { count = (counted k.agree).number; tail = drop 70 y; words = window k; far_is = refl; followed = followed_by k one (window k) s (long_window k) k.slots_room (sixth k tt h, one_told k tt h) };
        unblamed = no_blame (ltb 5 (counted k.agree).number && not true) (counted k.agree).number;
        next = (unknown (ltb 5 (counted k.agree).number && not true) (counted k.agree).number, λ m i l. refl);
      }
  settling_moved k out false h =
      record {
        stage = settling;
        led = record { count = (counted k.agree).number; tail = drop 70 y; words = window k; far_is = refl; followed = followed_by k settling (window k) s (long_window k) k.slots_room tt };
        unblamed = no_blame (ltb 5 (counted k.agree).number && not false) (counted k.agree).number;
        next = (unknown (ltb 5 (counted k.agree).number && not false) (counted k.agree).number, λ m i l. absurd (early (counted k.agree).number m i l));
      }

  one_moved : (k : Followed p n one e w s b) (out : List ℤ) (q : Bool) → tells (pos (counted k.agree).number) own y ≡ q
      → Moved own.params one left (plain_step one (counted k.agree).number q out)
  unfolding next_clean
  one_moved k out true h =
      record {
        stage = two;
        led = record { count = (counted k.agree).number; tail = drop 70 y; words = window k; far_is = refl; followed = followed_by k two (window k) s (long_window k) k.slots_room (sixth k tt h, two_told k tt h k.holds.1) };
        unblamed = no_blame (ltb 5 (counted k.agree).number && not true) (counted k.agree).number;
        next = (unknown (ltb 5 (counted k.agree).number && not true) (counted k.agree).number, λ m i l. refl);
      }
  one_moved k out false h =
      record {
        stage = settling;
        led = record { count = (counted k.agree).number; tail = drop 70 y; words = window k; far_is = refl; followed = followed_by k settling (window k) s (long_window k) k.slots_room tt };
        unblamed = no_blame (ltb 5 (counted k.agree).number && not false) (counted k.agree).number;
        next = (unknown (ltb 5 (counted k.agree).number && not false) (counted k.agree).number, λ m i l. absurd (early (counted k.agree).number m i l));
      }

  -- the far decoder's signal is among the candidates of the window
  two_right : Followed p n two e w s b → Right (candidates w e s) b.signal
  two_right k = right_taken w e s k.words_room k.tail_room k.slots_room b.signal k.holds.1 (k.tail tt (omega (arith, k.holds.0)))

  two_eight : Followed p n two e w s b → length (candidates w e s) ≡ 1960
  two_eight k = length_candidates w e s k.words_room k.tail_room ∙ k.slots_room

  stage_moved : (g : Stage) (k : Followed p n g e w s b) (out : List ℤ) (q : Bool) → tells (pos (counted k.agree).number) own y ≡ q
      → Moved own.params g left (step_at (pos (counted k.agree).number) q g out)
  stage_moved settling k out q h = subst (Moved own.params settling left) (sym (plain_settling (counted k.agree).number q out)) (settling_moved k out q h)
  stage_moved one k out q h = subst (Moved own.params one left) (sym (plain_one (counted k.agree).number q out)) (one_moved k out q h)
  stage_moved two k out q h =
      let m = (counted k.agree).number in
      let r = candidates w e s in
      subst (Moved own.params two left) (sym (known_two m q out (found_now k r k.holds.0 (two_eight k) (two_right k))))
      (record {
        stage = held;
        led = record { count = m; tail = drop 70 y; words = w; far_is = refl; followed = followed_held k r k.holds.0 (two_eight k) (two_right k) };
        unblamed = tt;
        next = (refl, refl);
      })
  stage_moved held k out q h =
      let m = (counted k.agree).number in
      subst (Moved own.params held left) (sym (known_held m q out (found_now k s k.holds.0 k.slots_room k.holds.1)))
      (record {
        stage = held;
        led = record { count = m; tail = drop 70 y; words = w; far_is = refl; followed = followed_held k s k.holds.0 k.slots_room k.holds.1 };
        unblamed = tt;
        next = (refl, refl);
      })
  stage_moved lost k out q h =
      let m = (counted k.agree).number in
      subst (Moved own.params lost left) (sym (known_lost m q out (found_now k s k.holds.0 k.slots_room k.holds.1)))
      (record {
        stage = held;
        led = record { count = m; tail = drop 70 y; words = w; far_is = refl; followed = followed_held k s k.holds.0 k.slots_room k.holds.1 };
        unblamed = tt;
        next = (refl, refl);
      })

  pub voice_moved : (g : Stage) (out : List ℤ) → Followed p n g e w s b → Moved own.params g left (voice_step t f own y out (far n g e w) s)
  voice_moved g out k =
      let c = counted k.agree in
      subst (Moved own.params g left) (sym (step_is g out ∙ ap (λ (m : ℤ). step_at m (tells m own y) g out) c.is)) (stage_moved g k out (tells (pos c.number) own y) refl)

-- ---- a voice frame whose samples y may be any, behind a frame that was a candidate's: where it is blamed, the candidates go on

module _ (t : List ℤ) (f : SpeechParams) (p : Params) (n : ℕ) (e w s : List ℤ) (b : State) (y out : List ℤ) where
  abbrev any_tried : List ℤ
  any_tried = all_tried t (voice t f p) y s

  abbrev any_step : Step
  any_step = voice_step t f (voice t f p) y out (far n held e w) s

  abbrev any_words : List ℤ
  any_words = drop 80 w ++ map word (frame_words (voice t f p).first.a (voice t f p).second.a (e ++ y))

  not_found : (d : Difference) → any_step.class ≡ Differs d → fits any_tried (best any_tried) ≡ false
  unfolding voice_step slots_tried look found known taken class
  not_found d h = go (fits any_tried (best any_tried)) refl h
    where
      go : (x : Bool) → fits any_tried (best any_tried) ≡ x → cond x Known (Differs (first_difference y any_tried)) ≡ Differs d → x ≡ false
      go true q i = cc
      go false q i = refl

  lost_far : (m : ℕ) → next_count (pos n) (parity_ok f.p1 f.p0) ≡ pos m → fits any_tried (best any_tried) ≡ false → any_step.far ≡ far m lost (drop 70 y) any_words
  unfolding voice_step slots_tried look found known taken voice_far breaks next_status
  lost_far m i h = rw (h, i)

  lost_slots : fits any_tried (best any_tried) ≡ false → any_step.slots ≡ any_tried
  unfolding voice_step slots_tried found known taken slots_left
  lost_slots h = rw h

  pub blamed_moved : length y ≡ 80 → Followed p n held e w s b → (d : Difference) → any_step.class ≡ Differs d
      → Led (voice t f p).params lost (left t f p n e w s b) any_step
  blamed_moved ly k d h =
      let c = counted t f p n e w s b k.agree in
      let q = not_found d h in
      let q1 = firsts t f p n e w s b k (omega (arith, k.holds.0)) in
      let q2 = seconds t f p n e w s b k (omega (arith, k.holds.0)) in
      let x = right_on t (voice t f p) y s b.signal k.slots_room k.holds.1 in
      record {
        count = c.number;
        tail = drop 70 y;
        words = any_words;
        far_is = lost_far c.number c.is q;
        followed = record {
          agree = c.agree;
          tail = λ u l. absurd u;
          words = λ l. kept_words t (voice t f b.params).first (voice t f b.params).second b.signal k.room;
          tail_room = omega (arith, length-drop 70 y, ly);
          words_room = long_any k;
          slots_room = ap length (lost_slots q) ∙ length_all_tried t (voice t f p) y s ∙ k.slots_room;
          room = kept_room t (voice t f b.params).first (voice t f b.params).second b.signal k.room;
          holds = (
            c.on k.holds.0,
            subst (λ (z : List ℤ × (Subframe × Subframe)). Right z.0 (kept t z.1.0 z.1.1 b.signal)) (λ i. (sym (lost_slots q) i, (q1 i, q2 i))) x,
          );
        };
      }
    where
      long_any : Followed p n held e w s b → length any_words ≡ 160
      long_any k =
          length-append (drop 80 w) (map word (frame_words (voice t f p).first.a (voice t f p).second.a (e ++ y)))
          ∙ omega (arith, length-drop 80 w, k.words_room, length-map (frame_words (voice t f p).first.a (voice t f p).second.a (e ++ y)) word, length_frame_words (voice t f p).first.a (voice t f p).second.a (e ++ y))

-- ---- a concealed frame: whatever both decoders make of it

pub concealed_followed : (p : Params) (b : State) (ten w s : List ℤ) → length ten ≡ 10 → length w ≡ 160 → length s ≡ 1960 → Room b.signal → Followed p 0 settling ten w s b
concealed_followed p b ten w s lt lw ls room =
    record {
      agree = at_start p b.params;
      tail = λ u l. absurd (omega arith);
      words = λ l. absurd (omega arith);
      tail_room = lt;
      words_room = lw;
      slots_room = ls;
      room = room;
      holds = tt;
    }
