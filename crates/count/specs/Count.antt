-- The operation Count (01, "Operations and their refusals"; change request 12). A call has at most 360,000 frames; those of kinds 1 (SID), 2 (no transmission) and 3 (erased) are
-- counted as lost, since all three are concealed. Each of a frame's two subframes is counted by the rule of its delay.
use Rattle.std.specs.Prelude.{Bool, cond, ◌||◌, ◌&&◌, List, [], ◌∷◌, ℕ, ◌+◌, ◌*◌, min, eqb, leb, get_or, Result, Ok, Err}
use Rattle.kind.specs.Kind.{known}
use Rattle.rule.specs.declared.Rule.{Rule}
use Rattle.rule.specs.declared.Rule.TheVariants.{Thirds, Whole, Relative, BadParity, Concealed}
use Rattle.rule.specs.declared.Rules.{Rules}
use Rattle.count.specs.declared.Counts.{Counts}

-- the most frames of a call, and the most subframes
abbrev pub most : ℕ
most = 360000

abbrev pub most_subframes : ℕ
most_subframes = 720000

unfoldable pub no_counts : Counts
no_counts = record { frames = 0; lost = 0; thirds = 0; whole = 0; relative = 0; parity = 0; concealed = 0 }

-- frames or lost are 360,000 or more, or the counter of a rule 720,000 or more, whichever rules are to be counted
unfoldable pub full : Counts → Bool
full c =
    (leb most c.frames || leb most c.lost)
    || ((leb most_subframes c.thirds || (leb most_subframes c.whole || leb most_subframes c.relative))
    || (leb most_subframes c.parity || leb most_subframes c.concealed))

-- the subframes of all rules
unfoldable pub subframes : Counts → ℕ
subframes c = c.thirds + (c.whole + (c.relative + (c.parity + c.concealed)))

-- what calls of Count lead to from nothing counted, of any kinds and rules: two subframes for each frame
unfoldable pub fits : Counts → Bool
fits c = leb c.frames most && (leb c.lost c.frames && eqb (subframes c) (2 * c.frames))

-- with a frame of a kind in them
unfoldable pub with_frame : ℕ → Counts → Counts
with_frame kind c =
    record {
      frames = c.frames + 1;
      lost = cond (eqb kind 0) c.lost (c.lost + 1);
      thirds = c.thirds;
      whole = c.whole;
      relative = c.relative;
      parity = c.parity;
      concealed = c.concealed;
    }

-- with a subframe of a rule in them; `parity` counts those after bad parity
unfoldable pub with_rule : Counts → Rule → Counts
with_rule c Thirds = record { frames = c.frames; lost = c.lost; thirds = c.thirds + 1; whole = c.whole; relative = c.relative; parity = c.parity; concealed = c.concealed }
with_rule c Whole = record { frames = c.frames; lost = c.lost; thirds = c.thirds; whole = c.whole + 1; relative = c.relative; parity = c.parity; concealed = c.concealed }
with_rule c Relative = record { frames = c.frames; lost = c.lost; thirds = c.thirds; whole = c.whole; relative = c.relative + 1; parity = c.parity; concealed = c.concealed }
with_rule c BadParity = record { frames = c.frames; lost = c.lost; thirds = c.thirds; whole = c.whole; relative = c.relative; parity = c.parity + 1; concealed = c.concealed }
with_rule c Concealed = record { frames = c.frames; lost = c.lost; thirds = c.thirds; whole = c.whole; relative = c.relative; parity = c.parity; concealed = c.concealed + 1 }

-- with a frame and both its subframes
unfoldable pub with_both : ℕ → Rules → Counts → Counts
with_both kind r c = with_rule (with_rule (with_frame kind c) r.first) r.second

-- 5: kind above 3. 10: a count is at or above its limit. A kind and rules that don't go together are counted as they are.
unfoldable pub count : ℕ → Rules → Counts → Result Counts ℕ
count kind r c = cond (known kind) (cond (full c) (Err 10) (Ok (with_both kind r c))) (Err 5)

-- n frames are counted
unfoldable pub frames_are : ℕ → Counts → Bool
frames_are n c = eqb n c.frames

-- ---- as numbers of 32 bits, for a file

unfoldable pub numbers : Counts → List ℕ
numbers c = c.frames ∷ c.lost ∷ c.thirds ∷ c.whole ∷ c.relative ∷ c.parity ∷ c.concealed ∷ []

-- number k of a list, the greatest of 32 bits where it has more, and 0 where the list ends before it
abbrev number_at : List ℕ → ℕ → ℕ
number_at l k = min (get_or l k 0) 4294967295

unfoldable pub of_numbers : List ℕ → Counts
of_numbers l =
    record {
      frames = number_at l 0;
      lost = number_at l 1;
      thirds = number_at l 2;
      whole = number_at l 3;
      relative = number_at l 4;
      parity = number_at l 5;
      concealed = number_at l 6;
    }
