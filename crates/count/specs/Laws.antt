-- Laws of the counts: what a frame that is counted adds, which refusals there are, and that the counters of the rules add up to twice the frames. Assumes nothing.
use Rattle.std.specs.Prelude.{◌≡◌, refl, Bool, true, false, cond, ◌||◌, ◌&&◌, List, [], ◌∷◌, ℕ, zero, suc, ◌+◌, ◌*◌, ◌^◌, ◌≤◌, ◌<◌, min, T, eqb, leb, get_or, Result, Ok, Err}
use Rattle.std.proofs.Common.{subst, arith, eq-eqb, eqb-true, le-leb, leb-true, leb-false}
use Rattle.std.proofs.lemmas.Bool.{lt-leb}
use Rattle.kind.specs.Kind.{known}
use Rattle.kind.specs.Laws.{low_known}
use Rattle.rule.specs.declared.Rule.{Rule}
use Rattle.rule.specs.declared.Rule.TheVariants.{Thirds, Whole, Relative, BadParity, Concealed}
use Rattle.rule.specs.declared.Rules.{Rules}
use Rattle.rule.specs.Rule.{number}
use Rattle.count.specs.declared.Counts.{Counts}
use Rattle.count.specs.Count.{most, most_subframes, no_counts, full, subframes, fits, with_frame, with_rule, with_both, count, frames_are, numbers, of_numbers}

-- ---- room

-- no counter of a rule is above n
abbrev pub Few : Counts → ℕ → Type 0
Few c n = (c.thirds ≤ n) × ((c.whole ≤ n) × ((c.relative ≤ n) × ((c.parity ≤ n) × (c.concealed ≤ n))))

pub more_few : (c : Counts) (m n : ℕ) → m ≤ n → Few c m → Few c n
more_few c m n h (a, (b, (d, (e, f)))) = (omega arith, (omega arith, (omega arith, (omega arith, omega arith))))

neither : (a b : Bool) → (a || b) ≡ false → (a ≡ false) × (b ≡ false)
neither true b e = absurd (subst T e tt)
neither false b e = (refl, e)

below : {n : ℕ} → leb most_subframes n ≡ false → n ≤ 719999
below {n} e = omega (arith, leb-false most_subframes n e)

-- counts that are not full
pub record Room (c : Counts) : Type 0 where
  pub frames : c.frames < most
  pub lost : c.lost < most
  pub rules : Few c 719999

pub room : (c : Counts) → full c ≡ false → Room c
unfolding full
room c e =
    let a = neither (leb most c.frames || leb most c.lost) _ e in
    let f = neither (leb most c.frames) (leb most c.lost) a.0 in
    let b = neither (leb most_subframes c.thirds || (leb most_subframes c.whole || leb most_subframes c.relative)) _ a.1 in
    let h = neither (leb most_subframes c.thirds) _ b.0 in
    let i = neither (leb most_subframes c.whole) (leb most_subframes c.relative) h.1 in
    let j = neither (leb most_subframes c.parity) (leb most_subframes c.concealed) b.1 in
    record {
      frames = leb-false _ _ f.0;
      lost = leb-false _ _ f.1;
      rules = (below h.0, (below i.0, (below i.1, (below j.0, below j.1))));
    }

pub frame_few : (c : Counts) (kind n : ℕ) → Few c n → Few (with_frame kind c) n
unfolding with_frame
frame_few c kind n h = h

pub rule_few : (c : Counts) (r : Rule) (n : ℕ) → Few c n → Few (with_rule c r) (n + 1)
unfolding with_rule
rule_few c Thirds n (a, (b, (d, (e, f)))) = (omega arith, (omega arith, (omega arith, (omega arith, omega arith))))
rule_few c Whole n (a, (b, (d, (e, f)))) = (omega arith, (omega arith, (omega arith, (omega arith, omega arith))))
rule_few c Relative n (a, (b, (d, (e, f)))) = (omega arith, (omega arith, (omega arith, (omega arith, omega arith))))
rule_few c BadParity n (a, (b, (d, (e, f)))) = (omega arith, (omega arith, (omega arith, (omega arith, omega arith))))
rule_few c Concealed n (a, (b, (d, (e, f)))) = (omega arith, (omega arith, (omega arith, (omega arith, omega arith))))

-- ---- what a rule adds: one subframe, and nothing to the frames

record OneSubframe (c d : Counts) : Type 0 where
  frames : d.frames ≡ c.frames
  lost : d.lost ≡ c.lost
  one : subframes d ≡ subframes c + 1

rule_adds : (c : Counts) (r : Rule) → OneSubframe c (with_rule c r)
unfolding subframes with_rule
rule_adds c Thirds = record { frames = refl; lost = refl; one = omega arith }
rule_adds c Whole = record { frames = refl; lost = refl; one = omega arith }
rule_adds c Relative = record { frames = refl; lost = refl; one = omega arith }
rule_adds c BadParity = record { frames = refl; lost = refl; one = omega arith }
rule_adds c Concealed = record { frames = refl; lost = refl; one = omega arith }

-- a frame with its two: one frame more and two subframes
record Adds (kind : ℕ) (c d : Counts) : Type 0 where
  frames : d.frames ≡ c.frames + 1
  lost : d.lost ≡ cond (eqb kind 0) c.lost (c.lost + 1)
  two : subframes d ≡ subframes c + 2

adds : (kind : ℕ) (r : Rules) (c : Counts) → Adds kind c (with_both kind r c)
unfolding with_both with_frame subframes
adds kind r c =
    let a = rule_adds (with_frame kind c) r.first in
    let b = rule_adds (with_rule (with_frame kind c) r.first) r.second in
    record { frames = rw (b.frames, a.frames); lost = rw (b.lost, a.lost); two = omega (arith, a.one, b.one) }

-- ---- each counter grows by the subframes that have its rule

unfoldable pub counter : Rule → Counts → ℕ
counter Thirds c = c.thirds
counter Whole c = c.whole
counter Relative c = c.relative
counter BadParity c = c.parity
counter Concealed c = c.concealed

-- 1 where two rules are one, else 0
unfoldable pub one_if : Rule → Rule → ℕ
one_if r s = cond (eqb (number r) (number s)) 1 0

rule_counted : (r s : Rule) (c : Counts) → counter r (with_rule c s) ≡ counter r c + one_if r s
unfolding counter with_rule one_if number
rule_counted Thirds Thirds c = omega arith
rule_counted Thirds Whole c = omega arith
rule_counted Thirds Relative c = omega arith
rule_counted Thirds BadParity c = omega arith
rule_counted Thirds Concealed c = omega arith
rule_counted Whole Thirds c = omega arith
rule_counted Whole Whole c = omega arith
rule_counted Whole Relative c = omega arith
rule_counted Whole BadParity c = omega arith
rule_counted Whole Concealed c = omega arith
rule_counted Relative Thirds c = omega arith
rule_counted Relative Whole c = omega arith
rule_counted Relative Relative c = omega arith
rule_counted Relative BadParity c = omega arith
rule_counted Relative Concealed c = omega arith
rule_counted BadParity Thirds c = omega arith
rule_counted BadParity Whole c = omega arith
rule_counted BadParity Relative c = omega arith
rule_counted BadParity BadParity c = omega arith
rule_counted BadParity Concealed c = omega arith
rule_counted Concealed Thirds c = omega arith
rule_counted Concealed Whole c = omega arith
rule_counted Concealed Relative c = omega arith
rule_counted Concealed BadParity c = omega arith
rule_counted Concealed Concealed c = omega arith

frame_counted : (r : Rule) (kind : ℕ) (c : Counts) → counter r (with_frame kind c) ≡ counter r c
unfolding counter with_frame
frame_counted Thirds kind c = refl
frame_counted Whole kind c = refl
frame_counted Relative kind c = refl
frame_counted BadParity kind c = refl
frame_counted Concealed kind c = refl

pub rules_counted : (r : Rule) (kind : ℕ) (b : Rules) (c : Counts) → counter r (with_both kind b c) ≡ counter r c + (one_if r b.first + one_if r b.second)
unfolding with_both
rules_counted r kind b c =
    let f = frame_counted r kind c in
    let g = rule_counted r b.first (with_frame kind c) in
    let h = rule_counted r b.second (with_rule (with_frame kind c) b.first) in
    omega (arith, f, g, h)

-- ---- counts that fit

record Fitting (c : Counts) : Type 0 where
  few : c.frames ≤ most
  part : c.lost ≤ c.frames
  both : subframes c ≡ 2 * c.frames

fitting : (c : Counts) → fits c ≡ true → Fitting c
unfolding fits
fitting c = by (leb c.frames most) (leb c.lost c.frames) (eqb (subframes c) (2 * c.frames)) refl refl refl
  where
    by : (p q r : Bool) → leb c.frames most ≡ p → leb c.lost c.frames ≡ q → eqb (subframes c) (2 * c.frames) ≡ r → p && (q && r) ≡ true → Fitting c
    by true true true e f g h = record { few = leb-true _ _ e; part = leb-true _ _ f; both = eqb-true _ _ g }
    by true true false e f g h = let z : ◌≡◌ {A = ℕ} 0 1 = cc in absurd (omega arith)
    by true false r e f g h = let z : ◌≡◌ {A = ℕ} 0 1 = cc in absurd (omega arith)
    by false q r e f g h = let z : ◌≡◌ {A = ℕ} 0 1 = cc in absurd (omega arith)

pub fits_of : (c : Counts) → c.frames ≤ most → c.lost ≤ c.frames → subframes c ≡ 2 * c.frames → fits c ≡ true
unfolding fits
fits_of c f p b = rw (le-leb c.frames most f, le-leb c.lost c.frames p) (eq-eqb _ _ b)

-- where the counts fit, no rule has more than twice the frames
most_each : (c : Counts) → fits c ≡ true → Few c (2 * c.frames)
unfolding subframes
most_each c h =
    let b : c.thirds + (c.whole + (c.relative + (c.parity + c.concealed))) ≡ 2 * c.frames = (fitting c h).both in
    (omega arith, (omega arith, (omega arith, (omega arith, omega arith))))

-- two subframes for each frame
pub fits_both : (c : Counts) → fits c ≡ true → subframes c ≡ 2 * c.frames
fits_both c h = (fitting c h).both

-- what an answer says of the counts
counted : (kind : ℕ) (r : Rules) (c d : Counts) → count kind r c ≡ Ok d → (full c ≡ false) × (d ≡ with_both kind r c)
unfolding count
counted kind r c d = by (known kind) (full c) refl
  where
    by : (p q : Bool) → full c ≡ q → cond {A = Result Counts ℕ} p (cond q (Err 10) (Ok (with_both kind r c))) (Err 5) ≡ Ok d → (full c ≡ false) × (d ≡ with_both kind r c)
    by true false e h = (e, cc)
    by true true e h = let z : ◌≡◌ {A = ℕ} 0 1 = cc in absurd (omega arith)
    by false q e h = let z : ◌≡◌ {A = ℕ} 0 1 = cc in absurd (omega arith)

-- a frame that is counted is one more, and not the 360,001st
pub more : (kind : ℕ) (r : Rules) (c d : Counts) → count kind r c ≡ Ok d → (d.frames ≡ c.frames + 1) × (c.frames < most)
more kind r c d h =
    let e = counted kind r c d h in
    (rw e.1 (adds kind r c).frames, (room c e.0).frames)

-- nothing counted fits, and counts that fit still do with a frame more
pub fits_none : fits no_counts ≡ true
unfolding fits subframes no_counts
fits_none = refl

lost_more : (p : Bool) (lost frames : ℕ) → lost ≤ frames → cond p lost (lost + 1) ≤ frames + 1
lost_more true lost frames h = omega arith
lost_more false lost frames h = omega arith

pub fits_more : (kind : ℕ) (r : Rules) (c d : Counts) → fits c ≡ true → count kind r c ≡ Ok d → fits d ≡ true
fits_more kind r c d f h =
    let e = counted kind r c d h in
    let m = (room c e.0).frames in
    let a = adds kind r c in
    let g = lost_more (eqb kind 0) c.lost c.frames (fitting c f).part in
    rw e.1
    (fits_of (with_both kind r c) (omega (arith, a.frames, m)) (rw (a.frames, a.lost) g) (omega (arith, a.two, a.frames, (fitting c f).both)))

-- a refusal has a number, and of a frame of one of the kinds it is 10
pub refused_some : (kind n : ℕ) (r : Rules) (c : Counts) → count kind r c ≡ Err n → 0 < n
unfolding count
refused_some kind n r c = by (known kind) (full c)
  where
    by : (p q : Bool) → cond {A = Result Counts ℕ} p (cond q (Err 10) (Ok (with_both kind r c))) (Err 5) ≡ Err n → 0 < n
    by true true h = let z : 10 ≡ n = cc in omega arith
    by true false h = let z : ◌≡◌ {A = ℕ} 0 1 = cc in absurd (omega arith)
    by false q h = let z : 5 ≡ n = cc in omega arith

pub refused_full : (kind n : ℕ) (r : Rules) (c : Counts) → kind ≤ 3 → count kind r c ≡ Err n → n ≡ 10
unfolding count
refused_full kind n r c k = rw (low_known kind k) (by (full c))
  where
    by : (q : Bool) → cond {A = Result Counts ℕ} q (Err 10) (Ok (with_both kind r c)) ≡ Err n → n ≡ 10
    by true h = cc
    by false h = let z : ◌≡◌ {A = ℕ} 0 1 = cc in absurd (omega arith)

-- ---- which counts are full (change request 12: a rule's counter is tested against 720,000)

-- a call is refused for its frames alone: where the counts fit, a frame more of any kind and rules is counted below 360,000
pub not_full : (c : Counts) → fits c ≡ true → c.frames < most → full c ≡ false
unfolding full
not_full c h m =
    let e = most_each c h in
    let p = (fitting c h).part in
    rw (
      lt-leb most c.frames m,
      lt-leb most c.lost (omega arith),
      lt-leb most_subframes c.thirds (omega (arith, e.0)),
      lt-leb most_subframes c.whole (omega (arith, e.1.0)),
      lt-leb most_subframes c.relative (omega (arith, e.1.1.0)),
      lt-leb most_subframes c.parity (omega (arith, e.1.1.1.0)),
      lt-leb most_subframes c.concealed (omega (arith, e.1.1.1.1)),
    )

pub not_refused : (kind : ℕ) (r : Rules) (c : Counts) → kind ≤ 3 → fits c ≡ true → c.frames < most → count kind r c ≡ Ok (with_both kind r c)
unfolding count
not_refused kind r c k h m = rw (low_known kind k, not_full c h m)

-- 719,999 subframes of a rule are counted on, 720,000 refused, whatever the frames
abbrev pub many : ℕ → Counts
many n = record { frames = 1; lost = 0; thirds = n; whole = 0; relative = 0; parity = 0; concealed = 0 }

pub limit_below : full (many 719999) ≡ false
unfolding full
limit_below = refl

pub limit_reached : full (many 720000) ≡ true
unfolding full
limit_reached = refl

-- ---- n frames

pub frames_none : frames_are 0 no_counts ≡ true
unfolding frames_are no_counts
frames_none = refl

pub frames_few : (n : ℕ) (c : Counts) → fits c ≡ true → frames_are n c ≡ true → n ≤ most
unfolding frames_are
frames_few n c h e = omega (arith, (fitting c h).few, eqb-true n c.frames e)

pub frames_more : (kind n : ℕ) (r : Rules) (c d : Counts) → count kind r c ≡ Ok d → frames_are n c ≡ true → (frames_are (n + 1) d ≡ true) × (n < most)
unfolding frames_are
frames_more kind n r c d h e =
    let m = more kind r c d h in
    let g : n ≡ c.frames = eqb-true n c.frames e in
    (eq-eqb (n + 1) d.frames (omega arith), omega arith)

-- ---- over a list of calls of Count, from nothing counted (change request 12)

pub record Call : Type 0 where
  pub kind : ℕ
  pub rules : Rules

-- a refusal leaves the counts as they were
unfoldable pub kept : Counts → Result Counts ℕ → Counts
kept c (Err n) = c
kept c (Ok d) = d

unfoldable pub counts_after : List Call → Counts → Counts
counts_after [] c = c
counts_after (x ∷ xs) c = counts_after xs (kept c (count x.kind x.rules c))

kept_both : (kind : ℕ) (r : Rules) (c : Counts) → subframes c ≡ 2 * c.frames → subframes (kept c (count kind r c)) ≡ 2 * (kept c (count kind r c)).frames
unfolding kept
kept_both kind r c h = by (count kind r c) refl
  where
    by : (a : Result Counts ℕ) → count kind r c ≡ a → subframes (kept c a) ≡ 2 * (kept c a).frames
    by (Err n) e = h
    by (Ok d) e =
        let a = adds kind r c in
        rw (counted kind r c d e).1 (omega (arith, h, a.frames, a.two))

after : (xs : List Call) (c : Counts) → subframes c ≡ 2 * c.frames → subframes (counts_after xs c) ≡ 2 * (counts_after xs c).frames
unfolding counts_after
after [] c h = h
after (x ∷ xs) c h = after xs _ (kept_both x.kind x.rules c h)

-- the five add up to twice the frames, whatever the kinds and rules, refused calls among them
pub twice : (xs : List Call) → subframes (counts_after xs no_counts) ≡ 2 * (counts_after xs no_counts).frames
twice xs = after xs no_counts (fitting no_counts fits_none).both

-- ---- as numbers

small : (c : Counts) → fits c ≡ true → Few c 720000
small c h = more_few c (2 * c.frames) 720000 (omega (arith, (fitting c h).few)) (most_each c h)

-- counts that fit are numbers of 32 bits, and come back from them
pub numbers_small : (c : Counts) → fits c ≡ true → (k : ℕ) → get_or (numbers c) k 0 < 2 ^ 32
unfolding numbers
numbers_small c h zero = omega (arith, (fitting c h).few)
numbers_small c h (suc zero) = omega (arith, (fitting c h).few, (fitting c h).part)
numbers_small c h (suc (suc zero)) = omega (arith, (small c h).0)
numbers_small c h (suc (suc (suc zero))) = omega (arith, (small c h).1.0)
numbers_small c h (suc (suc (suc (suc zero)))) = omega (arith, (small c h).1.1.0)
numbers_small c h (suc (suc (suc (suc (suc zero))))) = omega (arith, (small c h).1.1.1.0)
numbers_small c h (suc (suc (suc (suc (suc (suc zero)))))) = omega (arith, (small c h).1.1.1.1)
numbers_small c h (suc (suc (suc (suc (suc (suc (suc k))))))) = omega arith

pub numbers_back : (c : Counts) → fits c ≡ true → of_numbers (numbers c) ≡ c
unfolding of_numbers numbers
numbers_back c h =
    let s = small c h in
    let f : min c.frames 4294967295 ≡ c.frames = omega (arith, (fitting c h).few) in
    let l : min c.lost 4294967295 ≡ c.lost = omega (arith, (fitting c h).few, (fitting c h).part) in
    let a : min c.thirds 4294967295 ≡ c.thirds = omega (arith, s.0) in
    let b : min c.whole 4294967295 ≡ c.whole = omega (arith, s.1.0) in
    let d : min c.relative 4294967295 ≡ c.relative = omega (arith, s.1.1.0) in
    let e : min c.parity 4294967295 ≡ c.parity = omega (arith, s.1.1.1.0) in
    let g : min c.concealed 4294967295 ≡ c.concealed = omega (arith, s.1.1.1.1) in
    rw (f, l, a, b, d, e, g)
